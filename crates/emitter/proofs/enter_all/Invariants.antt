-- The records of the chunks that are passed are entered.
use Rattle.emitter.proofs.Records.{Entering}
use Rattle.emitter.proofs.enter_all.Given as goal

abbrev pub invariant-loop-numbers : goal.invariant-loop-numbers
invariant-loop-numbers l =
    Entering l.records l.places l.fn.table l.tests l.next l.table l.stack l.m l.numbers-index
