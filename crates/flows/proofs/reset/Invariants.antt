-- The memories among the first i equations have their initial values.
use Rattle.std.proofs.Common.{◌≡◌}
use Rattle.flows.specs.Flow.{initial_at, memories_set}
use Rattle.flows.proofs.reset.Given as goal

abbrev pub invariant-loop-i : goal.invariant-loop-i
invariant-loop-i l = l.state ≡ memories_set l.table.numbers.now (initial_at l.table.numbers.now) l.i l.initial.state
