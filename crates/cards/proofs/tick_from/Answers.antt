-- A line with no velocity is read, and a velocity behind it.
use Rattle.cards.proofs.Front.{read_struck}
use Rattle.cards.proofs.tick_from.Goals as goal

pub returns : goal.returns
returns c =
    read_struck _ _ _ _ c.in_ok-get.ensures.lookup.0.2 c.in_ok-front.ensures.cases.same c.in_ok-line.ensures
    c.if-edition-eq-PLAIN_EDITION.false c.in_ok-velocity.ensures
