-- The first i flows stand in the buffer, and the rest is as it was.
use Rattle.std.proofs.Common.{◌≡◌, ◌++◌, drop}
use Rattle.flows.specs.Flow.{flows}
use Rattle.flows.proofs.fill.Given as goal

abbrev pub invariant-loop-i : goal.invariant-loop-i
invariant-loop-i l = l.values ≡ flows l.cap l.table.numbers.now l.tick l.state l.i ++ drop l.i l.initial.values
