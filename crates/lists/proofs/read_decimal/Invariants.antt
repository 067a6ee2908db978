-- What is left of the digits reads as the number does.
use Rattle.lists.proofs.Decimals.{DigitsRead}
use Rattle.lists.proofs.read_decimal.Given as goal

abbrev pub invariant-loop-next : goal.invariant-loop-next
invariant-loop-next l = DigitsRead l.s l.at l.max l.value l.next
