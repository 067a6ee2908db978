-- The rows of the slots that are passed are put.
use Rattle.emitter.proofs.Equations.{Filling}
use Rattle.emitter.proofs.Values.fill.Given as goal

abbrev pub invariant-loop-row : goal.invariant-loop-row
invariant-loop-row l = Filling l.self l.d.rows l.fn.t l.o l.t l.next l.row-index
