-- The number decides, whose comma `before` looks for.
use Rattle.cards.proofs.decimals.decimal_before_comma.Goals as goal

pub returns : goal.returns
returns c = c.before-2.ensures _ c.in_ok-decimal_at.ensures
