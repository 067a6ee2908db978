-- What a whole run of the program promises (SPEC 11.1): the system calls that were made, and that what was handed to
-- the writes is what the card shows that the reads brought (player, specs/Shows.antt). The card of SPEC 14.3 is the
-- crate's `stdin`, and what it prints its `stdout`. Definitions only.
use Rattle.std.specs.Prelude.{List, [], ◌++◌, ◌≡◌, ◌⊎◌, ℕ, length}
use Rattle.player.specs.Shows.{Shows}
use Rattle.streams.specs.Calls.{Came}
use Rattle.towerwatch.specs.Turns.{is_done, Turned}
use Rattle.towerwatch.specs.declared.Total.{Total}
use Rattle.towerwatch.specs.declared.Stand.{Stand}
use Rattle.towerwatch.specs.declared.Stand.TheVariants as S

-- The bytes i came in, and o was handed over. At the end of the input, which `over` says, o is all that the card i
-- shows; once the card is over, the same, whatever is still to come; after a write that took nothing, all that the card
-- shows, at the end of the input, or its front, whatever is still to come (SPEC 11.2).
abbrev pub Showing : Type 0 → Stand → List ℕ → List ℕ → Type 0
Showing over S.Reading i o = ⊥
Showing over S.Ended i o = over × Shows i o
Showing over S.Over i o = (more : List ℕ) → Shows (i ++ more) o
Showing over S.Stuck i o = (over × Shows i o) ⊎ ((more : List ℕ) → (rest : List ℕ) × Shows (i ++ more) (o ++ rest))

-- A whole run. It is stuck exactly if one of the writes that its turns name took nothing (`Turned`).
pub record Program (r : Total) : Type 0 where
  pub input : List ℕ
  pub output : List ℕ
  pub got : length input ≡ r.got
  pub shown : length output ≡ r.shown
  pub turned : Turned input output (is_done r.stand)
  pub shows : Showing (Came r.got []) r.stand input output
