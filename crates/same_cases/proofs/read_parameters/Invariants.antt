-- The text that is left is no longer than the line.
use Rattle.std.proofs.Common.{◌≤◌, length}
use Rattle.same_cases.proofs.read_parameters.Given as goal

abbrev pub invariant-loop-parameter : goal.invariant-loop-parameter
invariant-loop-parameter l = length l.text ≤ length l.line
