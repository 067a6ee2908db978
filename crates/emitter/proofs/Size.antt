-- For callers: what writing an observer's equations at the front of a table leaves. Assumes nothing.
use mathlib.Core.List.{List, ◌++◌}
use mathlib.Core.Path.{◌≡◌, ap, ◌∙◌}
use Prim.Native.Nat.{ℕ, ◌*◌, ◌≤◌}
use native.Mathlib.Nat.{zero-add}
use native.Mathlib.Omega.{arith}
use lib.ListN.{length, drop}
use lib.Seq.{sets, sets-eq}
use Rattle.formulas.specs.Formula.{Formula}
use Rattle.limits.specs.Limits.{equation_limit, table_room}
use Rattle.scheme.specs.Emit.{observer, numbers_of}
use Rattle.scheme.proofs.Places.{length-numbers}
use Rattle.tables.specs.declared.Equation.{Equation}

-- In a table that refusal 9 lets pass (SPEC 7.9), an observer's equations stand at the front, and what comes after them
-- is kept.
pub observer-front : (f : Formula) (t : List ℕ) → length (observer f) ≤ equation_limit → table_room ≤ length t →
    sets t 0 (numbers_of (observer f)) ≡ numbers_of (observer f) ++ drop (4 * length (observer f)) t
observer-front f t few room = front (observer f) few
  where
    front : (es : List Equation) → length es ≤ equation_limit →
        sets t 0 (numbers_of es) ≡ numbers_of es ++ drop (4 * length es) t
    front es h =
        let long : length (numbers_of es) ≡ 4 * length es = length-numbers es in
        sets-eq (numbers_of es) t 0 (omega arith)
        ∙ ap (λ (n : ℕ). numbers_of es ++ drop n t) (zero-add (length (numbers_of es)) ∙ long)
