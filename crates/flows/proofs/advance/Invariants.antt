-- The memories among the first i equations have the flows of their operands.
use Rattle.std.proofs.Common.{◌≡◌}
use Rattle.flows.specs.Flow.{operand_at, memories_set}
use Rattle.flows.proofs.advance.Given as goal

abbrev pub invariant-loop-i : goal.invariant-loop-i
invariant-loop-i l = l.state ≡ memories_set l.table.numbers.now (operand_at l.table.numbers.now l.flows) l.i l.initial.state
