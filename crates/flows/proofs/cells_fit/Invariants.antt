-- The cells so far fit.
use Rattle.std.proofs.Common.{◌≡◌, true}
use Rattle.flows.specs.Step.{cells_fit}
use Rattle.flows.proofs.cells_fit.Given as goal

abbrev pub invariant-loop-i : goal.invariant-loop-i
invariant-loop-i l = cells_fit l.cap l.table.numbers.now l.i l.state ≡ true
