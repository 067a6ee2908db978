-- One digit more reads as the line does.
use Rattle.std.proofs.Common.{sym}
use Rattle.cards.proofs.Hex.{hexing_more}
use Rattle.cards.proofs.plain_line.Goals as goal

pub loop-b-preserved : goal.loop-b-preserved
loop-b-preserved c = hexing_more c.loop-b.invariant c.loop-b-test.true (sym c.in_ok-digit.ensures)
