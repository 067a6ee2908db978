-- What is left of the line reads, after the numbers that were stored, as the line does.
use Rattle.cards.proofs.Numbers.{Listing}
use Rattle.cards.proofs.parameters_of.Given as goal

abbrev pub invariant-loop-p : goal.invariant-loop-p
invariant-loop-p l = Listing l.s l.p-items l.at l.p-index
