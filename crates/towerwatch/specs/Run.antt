-- What the program does between its reads and its writes, as it is computed: one turn, and a whole run. Definitions
-- only. The same of a whole run with no word on how a card is played is in Program.antt.
use Rattle.std.specs.Prelude.{List, [], ◌++◌, Bool, true, false, ◌≡◌, ◌⊎◌, ℕ, ◌<◌, ◌≤◌, length, take}
use Rattle.player.specs.Card.{World, start_world, prints}
use Rattle.cards.specs.Says.{is_over}
use Rattle.feeder.specs.Feed.{Goes, fed_world, left_over}
use Rattle.streams.specs.Calls.{Came}
use Rattle.towerwatch.specs.Turns.{is_done, Handed, Turned}
use Rattle.towerwatch.specs.declared.Next.{Next}
use Rattle.towerwatch.specs.declared.Total.{Total}
use Rattle.towerwatch.specs.declared.Stand.{Stand}
use Rattle.towerwatch.specs.declared.Stand.TheVariants as S

-- The bytes that the output has room for.
abbrev pub output_room : ℕ
output_room = 65536

abbrev pub is_reading : Stand → Bool
is_reading S.Reading = true
is_reading S.Ended = false
is_reading S.Over = false
is_reading S.Stuck = false

-- All that the bytes s print is o, whatever is still to come.
abbrev pub Fed : World → List ℕ → List ℕ → Type 0
Fed w s o = Goes w s o (fed_world w s) (left_over s)

-- The program ends: of the input s came in, and o was handed over. At the end of the input, which `over` says, that is
-- all that is printed for s; once the card is over, the same, whatever is still to come; after a write that failed, all
-- that s prints, at the end of the input or before it.
abbrev pub Ends : Type 0 → Stand → World → List ℕ → List ℕ → Type 0
Ends over S.Reading w s o = ⊥
Ends over S.Ended w s o = over × (o ≡ prints w s)
Ends over S.Over w s o = (more : List ℕ) → o ≡ prints w (s ++ more)
Ends over S.Stuck w s o = (over × (o ≡ prints w s)) ⊎ Fed w s o

-- The program reads on: o was handed over for the bytes s, and w' goes on with the bytes s'.
pub record On (w : World) (s o : List ℕ) (w' : World) (s' : List ℕ) : Type 0 where
  pub goes : Goes w s o w' s'
  pub world : w' ≡ fed_world w s
  pub rest : s' ≡ left_over s
  pub going : is_over w'.watch.stage.phase ≡ false

abbrev pub Stands : Type 0 → Stand → World → List ℕ → List ℕ → World → List ℕ → Type 0
Stands over S.Reading w s o w' s' = On w s o w' s'
Stands over S.Ended w s o w' s' = Ends over S.Ended w s o
Stands over S.Over w s o w' s' = Ends over S.Over w s o
Stands over S.Stuck w s o w' s' = Ends over S.Stuck w s o

-- One turn from w, with the bytes s left over: the piece c comes in, or nothing at the end of the input, and the front
-- of out is handed over, after `at` bytes of the output. The program is stuck exactly if one of these writes took none.
pub record Takes (at : ℕ) (c : List ℕ) (w : World) (s : List ℕ) (r : Next) (w' : World) (s' out : List ℕ) : Type 0 where
  pub got : length c ≡ r.got
  pub more : is_reading r.stand ≡ true → 0 < r.got
  pub shown : r.shown ≤ length out
  pub room : r.got ≤ length out
  pub handed : Handed at (take r.shown out) (is_done r.stand)
  pub stands : Stands (c ≡ []) r.stand w (s ++ c) (take r.shown out) w' s'

-- The same of the piece that a read brings, after so many bytes of the input.
pub record Once (before at : ℕ) (w : World) (s : List ℕ) (r : Next) (w' : World) (s' out : List ℕ) : Type 0 where
  pub piece : List ℕ
  pub came : Came before piece
  pub takes : Takes at piece w s r w' s' out

-- A whole run: the bytes that came in, and those that were handed over, which are what the definition of a card's
-- output says of them (`printed` is `prints` from the start).
pub record Whole (r : Total) : Type 0 where
  pub input : List ℕ
  pub output : List ℕ
  pub got : length input ≡ r.got
  pub shown : length output ≡ r.shown
  pub turned : Turned input output (is_done r.stand)
  pub ends : Ends (Came r.got []) r.stand start_world input output
