-- The first cells that fit and one more, or one that does not.
use Rattle.std.proofs.Common.{sym, ◌∙◌}
use native.Mathlib.Omega.{arith}
use Rattle.tables.proofs.Tests.{all_none, all_more, all-stop}
use Rattle.flows.proofs.cells_fit.Goals as goal

pub loop-i-init : goal.loop-i-init
loop-i-init c = all_none _

pub returns-then-not-cell_fits : goal.returns-then-not-cell_fits
returns-then-not-cell_fits c =
    sym (all-stop _ c.loop-i.i _ (omega arith) (sym (rw c.equation.ensures at c.cell_fits.ensures) ∙ c.if-not-cell_fits.true))

pub loop-i-preserved : goal.loop-i-preserved
loop-i-preserved c = all_more _ c.loop-i.i c.loop-i.invariant (sym (rw c.equation.ensures at c.cell_fits.ensures) ∙ c.if-not-cell_fits.false)
