-- `player::Player::end_over_long` meets its contract: the line is broken, and the card is over. Assumes nothing.
use Rattle.std.proofs.Common.{ap₂}
use Rattle.player.specs.Card.{World, effect_of}
use Rattle.player.specs.declared.Output.{Output}
use Rattle.player.proofs.Playing.{said-last}
use Rattle.player.proofs.Player.end_over_long.Goals as goal

pub returns-clause-line : goal.returns-clause-line
returns-clause-line c =
    ap₂ (λ (o : Output) (w : World). effect_of o w) (said-last _ _ c.last_output.ensures c.broken-said.ensures)
    c.stop.ensures.over
