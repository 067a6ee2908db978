-- One digit more stands in the table.
use Rattle.cards.proofs.Hex.{filled_more}
use Rattle.cards.proofs.hex_digits.Goals as goal

pub loop-k-preserved : goal.loop-k-preserved
loop-k-preserved c = filled_more _ _ _ c.loop-k.invariant
