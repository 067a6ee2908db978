-- What compiling a text does (SPEC 8.2). The clause leaves open which equations it makes; here they are the observer of
-- crates/scheme/specs/Emit.antt. Definitions only.
use Rattle.std.specs.Prelude.{cond, List, [], ℕ, ltb, length, Ok, Err}
use Rattle.std.proofs.Math.Option.{Option, none, some}
use Rattle.std.proofs.lemmas.List.Edits.{sets}
use Rattle.formulas.specs.Formula.{Formula}
use Rattle.formulas.specs.Tree.{formula_of}
use Rattle.limits.specs.Limits.{table_room}
use Rattle.limits.specs.declared.Context.{Context}
use Rattle.limits.specs.declared.Refusal.TheVariants.{ShortTable}
use Rattle.tables.specs.declared.Equation.{Equation}
use Rattle.scheme.specs.Emit.{observer, numbers_of}
use Rattle.rules.specs.Reading.{Outcome}
use Rattle.rules.specs.Reading.Outcome.{refused, rule}
use Rattle.rules.specs.Computed.{rule_of}
use Rattle.observers.specs.Demand.{Compiled}

-- What compiling answers, and the table that it leaves.
pub record AfterCompile : Type 0 where
  pub answer : Compiled
  pub table : List ℕ

abbrev pub after_compile : Compiled → List ℕ → AfterCompile
after_compile r table = record { answer = r; table = table }

-- The observer of a formula; a tree that is read has one.
abbrev pub observer_of : Option Formula → List Equation
observer_of none = []
observer_of (some f) = observer f

-- The equations at the front of the table, the rest kept.
abbrev pub stored : List Equation → List ℕ → AfterCompile
stored es table = after_compile (Ok (length es)) (sets table 0 (numbers_of es))

-- The refusals of reading, then SPEC 7.9; each leaves the table as it was (SPEC 1.4).
abbrev pub of_outcome : Outcome → List ℕ → AfterCompile
of_outcome (refused r) table = after_compile (Err r) table
of_outcome (rule t) table =
    cond (ltb (length table) table_room) (after_compile (Err ShortTable) table)
    (stored (observer_of (formula_of t)) table)

-- The whole effect of compiling a text, read in a context, into a lent table.
unfoldable pub compiled : Context → List ℕ → List ℕ → AfterCompile
compiled context text table = of_outcome (rule_of context text) table
