-- SPEC 12.3 (demand 3) of a text and the table that compiling it leaves. `Observes`
-- (crates/agreement/specs/Agreement.antt) is the statement about the list of steps. Definitions only.
use Rattle.std.specs.Prelude.{List, ◌++◌, ◌≡◌, ℕ, ◌*◌, ◌≤◌, ◌<◌, length, take, drop, Result, Ok, Err}
use Rattle.std.proofs.Math.Option.{some}
use Rattle.limits.specs.Reply as Reply
use Rattle.limits.specs.Reply.{Reply, gives}
use Rattle.formulas.specs.Formula.{Formula}
use Rattle.formulas.specs.Tree.{Tree, formula_of}
use Rattle.limits.specs.Limits.{standard_cap, table_room, rule_equations}
use Rattle.limits.specs.declared.Context.{Context}
use Rattle.limits.specs.declared.Refusal.{Refusal}
use Rattle.limits.specs.declared.Refusal.TheVariants.{ShortTable}
use Rattle.limits.specs.Refusal.{number}
use Rattle.agreement.specs.Agreement.{Closing, ExactMemories, Observes}
use Rattle.rules.specs.Reading.{HasOutcome}
use Rattle.rules.specs.Reading.Outcome.{refused, rule}

-- What compiling answers: how many equations the table has, or a refusal.
abbrev pub Compiled : Type 0
Compiled = Result ℕ Refusal

-- SPEC 8.2: compiling a text, read in a context, into a table, the answer, and the table before and after. But for the
-- last three, and how many are memories, it says nothing of how equations are chosen.
pub data Compiles (context : Context) (text before : List ℕ) : Compiled → List ℕ → Type 0 where
  -- refused as reading the text is, the table unchanged
  not-read : {r : Refusal} → HasOutcome context text (refused r) → Compiles context text before (Err r) before
  -- SPEC 7.9: too short a table, unchanged
  no_room : {t : Tree} → HasOutcome context text (rule t) → length before < table_room
      → Compiles context text before (Err ShortTable) before
  -- Else the first n equations of the table observe the rule's formula and have the memories of SPEC 12.8, whatever
  -- numbers or none stand after them where they are used. They are not many (SPEC 12.6), and the last of them close by
  -- SPEC 12.7. All other numbers of the lent table are kept.
  observed : {n : ℕ} {after : List ℕ} {t : Tree} {f : Formula} → HasOutcome context text (rule t) → formula_of t
      ≡ some f
      → table_room ≤ length before → n ≤ rule_equations
      → length after ≡ length before → drop (4 * n) after ≡ drop (4 * n) before
      → ((rest : List ℕ) → Observes standard_cap context.velocities (take (4 * n) after ++ rest) n f)
      → ((rest : List ℕ) → ExactMemories (take (4 * n) after ++ rest) n t) → Closing after n
      → Compiles context text before (Ok n) after

-- SPEC 8.2: the result is n.
abbrev pub compile_reply : Compiled → Reply
compile_reply (Ok n) = gives n
compile_reply (Err r) = Reply.refused (number r)
