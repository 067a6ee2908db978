-- What is left of the digits reads as the line does.
use Rattle.lists.specs.Decimal.{digit_value}
use Rattle.cards.proofs.Hex.{Hexing}
use Rattle.cards.proofs.plain_line.Given as goal

abbrev pub invariant-loop-b : goal.invariant-loop-b
invariant-loop-b l = Hexing l.s l.b-items (digit_value l.start) l.signals l.b-index
