-- Laws on truth values as numbers, on operators by number, and on what an operator says. Assumes nothing.
use mathlib.Core.Bool.{Bool, true, false}
use mathlib.Core.Logic.{◌↔◌}
use mathlib.Core.Path.{◌≡◌, refl}
use Prim.Native.Nat.{ℕ, zero, suc, ◌≤◌, ◌<◌}
use native.Mathlib.Omega.{arith}
use borrow.Author.Tests.{leb-true, ltb-true, eqb-true, le-leb, lt-ltb, eq-eqb}
use Rattle.limits.specs.Limits.{comparison_count}
use Rattle.traces.specs.Trace.{truth, idle_verdict, nonzero}
use Rattle.traces.specs.Compare.{op_of, op_number, compares, Compared}
use Rattle.traces.specs.declared.Op.{Op}
use Rattle.traces.specs.declared.Op.TheVariants.{AtMost as le, Below as lt, Equal as eq, Above as gt}
use Rattle.traces.specs.declared.Op.TheVariants.{AtLeast as ge}

-- A truth value as a number is read back as itself.
pub nonzero-truth : (b : Bool) → nonzero (truth b) ≡ b
nonzero-truth true = refl
nonzero-truth false = refl

-- No truth value is idle.
pub truth-idle : (b : Bool) → ¬ (truth b ≡ idle_verdict)
truth-idle true e = omega arith
truth-idle false e = omega arith

-- A number that is 0 or 1 is the number of a truth value.
pub truth-nonzero : (x : ℕ) → x ≤ 1 → truth (nonzero x) ≡ x
truth-nonzero zero h = refl
truth-nonzero (suc zero) h = refl
truth-nonzero (suc (suc x)) h = absurd (omega arith)

-- A number above 0 is yes.
pub nonzero-pos : (x : ℕ) → 0 < x → nonzero x ≡ true
nonzero-pos zero h = absurd (omega arith)
nonzero-pos (suc x) h = refl

-- An operator is the operator of its number,
pub op-number : (o : Op) → op_of (op_number o) ≡ o
op-number le = refl
op-number lt = refl
op-number eq = refl
op-number gt = refl
op-number ge = refl

-- each number up to 4 is the number of its operator,
pub number-op : (k : ℕ) → k < comparison_count → op_number (op_of k) ≡ k
number-op zero h = refl
number-op (suc zero) h = refl
number-op (suc (suc zero)) h = refl
number-op (suc (suc (suc zero))) h = refl
number-op (suc (suc (suc (suc zero)))) h = refl
number-op (suc (suc (suc (suc (suc k))))) h = absurd (omega arith)

-- and the operators from 4 on are `>=`.
pub op-last : (k : ℕ) → 4 ≤ k → op_of k ≡ ge
op-last zero h = absurd (omega arith)
op-last (suc zero) h = absurd (omega arith)
op-last (suc (suc zero)) h = absurd (omega arith)
op-last (suc (suc (suc zero))) h = absurd (omega arith)
op-last (suc (suc (suc (suc zero)))) h = refl
op-last (suc (suc (suc (suc (suc k))))) h = refl

-- An operator says yes exactly where it holds (SPEC 1.3).
pub compared : (o : Op) (x n : ℕ) → (compares o x n ≡ true) ↔ Compared o x n
compared le x n = (leb-true x n, le-leb x n)
compared lt x n = (ltb-true x n, lt-ltb x n)
compared eq x n = (eqb-true x n, eq-eqb x n)
compared gt x n = (ltb-true n x, lt-ltb n x)
compared ge x n = (leb-true n x, le-leb n x)
