-- What the function that reads a rule's tree asks, and what it leaves for other operations. Definitions only.
use Rattle.std.specs.Prelude.{◌≡◌, List, ℕ, ◌≤◌, length, Result, Ok, Err}
use Rattle.std.proofs.lemmas.List.Edits.{sets}
use Rattle.limits.specs.Limits.{arena_limit}
use Rattle.limits.specs.declared.Context.{Context}
use Rattle.limits.specs.declared.Refusal.{Refusal}
use Rattle.formulas.specs.Tree.{Tree, nodes}
use Rattle.formulas.specs.Arena.{flat}
use Rattle.words.specs.Contract.{Ranged}
use Rattle.rules.specs.Reading.{Outcome}
use Rattle.rules.specs.Reading.Outcome.{refused, rule}
use Rattle.rules.specs.declared.Records.{Records}

-- What it asks: a context whose velocities have words of their own, and an arena that takes the records of any rule.
pub record Readable (context : Context) (arena : List ℕ) : Type 0 where
  pub ranged : Ranged context
  pub room : arena_limit ≤ length arena

-- The answer of the function that hands the tree on to other operations.
abbrev pub records_of : Outcome → Result Records Refusal
records_of (refused r) = Err r
records_of (rule t) = Ok (record { size = length (flat t); nodes = nodes t })

-- It leaves the tree's records at the front of the arena and keeps all else; of a refused text's arena nothing is said.
pub record Laid (o : Outcome) (before : List ℕ) (r : Result Records Refusal) (after : List ℕ) : Type 0 where
  pub result : r ≡ records_of o
  pub filled : (t : Tree) → o ≡ rule t → after ≡ sets before 0 (flat t)
  pub small : (t : Tree) → o ≡ rule t → length (flat t) ≤ arena_limit
