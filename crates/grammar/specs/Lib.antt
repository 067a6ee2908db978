-- The grammar of rule texts. `Grammar` has it as a relation; `Parse` is reading as a computation, and proofs/ shows
-- that the two are the same. `Fragment` says which words have a meaning.
pub mod Grammar
pub mod Fragment
pub mod Parse
