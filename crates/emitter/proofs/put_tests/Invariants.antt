-- The tests of the chunks that are passed stand in the table.
use Rattle.emitter.proofs.Records.{Testing}
use Rattle.emitter.proofs.put_tests.Given as goal

abbrev pub invariant-loop-numbers : goal.invariant-loop-numbers
invariant-loop-numbers l =
    Testing l.numbers-items l.fn.table l.fn.tests l.table l.next l.numbers-index
