-- The answer of reading a rule. Definitions only.
use Rattle.std.specs.Prelude.{◌≡◌, List, ℕ, Result, Ok, Err}
use Rattle.limits.specs.declared.Context.{Context}
use Rattle.limits.specs.declared.Refusal.{Refusal}
use Rattle.limits.specs.Refusal.{number}
use Rattle.limits.specs.Reply as Reply
use Rattle.limits.specs.Reply.{Reply, gives}
use Rattle.formulas.specs.Tree.{nodes}
use Rattle.rules.specs.Reading.{Outcome, HasOutcome}
use Rattle.rules.specs.Reading.Outcome.{refused, rule}

-- SPEC 8.1: what reading a rule answers, its number of nodes or the refusal.
abbrev pub Read : Type 0
Read = Result ℕ Refusal

abbrev pub answer_of : Outcome → Read
answer_of (refused r) = Err r
answer_of (rule t) = Ok (nodes t)

abbrev pub read_reply : Read → Reply
read_reply (Ok n) = gives n
read_reply (Err r) = Reply.refused (number r)

-- The contract of reading in the terms of SPEC 8.1: the answer is that of the one outcome that the text has.
pub record Told (context : Context) (text : List ℕ) (r : Read) : Type 0 where
  pub outcome : Outcome
  pub has : HasOutcome context text outcome
  pub answer : r ≡ answer_of outcome
