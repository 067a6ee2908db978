-- A mark as a number: 0 alone is none. Assumes nothing.
use mathlib.Core.Path.{◌≡◌}
use mathlib.Core.Bool.{not}
use Prim.Native.Nat.{ℕ, zero, suc, ◌≤◌}
use native.Mathlib.Omega.{arith}
use mir.Val.{bool_byte}
use lib.Dec.{eqb}
use borrow.Author.Tests.{ne_eqb}
use Rattle.traces.specs.Trace.{nonzero, truth}

-- A mark counts for one.
pub mark-counts : (x : ℕ) {k : ℕ} → k ≡ bool_byte (not (eqb x 0)) → (k ≡ truth (nonzero x)) × (k ≤ 1)
mark-counts zero e = (e, omega (arith, e))
mark-counts (suc x) e = let one = rw (ne_eqb (suc x) 0 (omega arith)) at e in (one, omega arith)
