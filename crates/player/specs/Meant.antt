-- What the program prints for a card (Card.antt) is what the card shows (Shows.antt). Definitions only; the theorem is
-- `meant` in proofs/Shown.antt.
use Rattle.std.specs.Prelude.{List, ◌≡◌, ℕ}
use Rattle.player.specs.Card.{printed}
use Rattle.player.specs.Shows.{Shows}

-- What is printed for a card is what it shows, and it shows nothing else.
pub record Meant (card : List ℕ) : Type 0 where
  pub shown : Shows card (printed card)
  pub only : (out : List ℕ) → Shows card out → out ≡ printed card
