-- A card handed over piece by piece. Definitions only. The theorem on them is `program` in proofs/Pieces.antt.
use Rattle.std.specs.Prelude.{List, [], ◌∷◌, ◌++◌, ◌≡◌, ℕ, length}
use Rattle.player.specs.Card.{World, last_output, start_world, printed}
use Rattle.player.specs.Output.{output_bytes}
use Rattle.feeder.specs.Feed.{Goes, Short}
use Rattle.cards.specs.Says.{end_says}
use Rattle.cards.specs.declared.Phase.TheVariants as P

-- The pieces put together.
unfoldable pub concat : List (List ℕ) → List ℕ
concat [] = []
concat (c ∷ cs) = c ++ concat cs

-- A run of the program from w on, with the bytes s left over: the pieces that come in, and what is printed. Each
-- piece comes after the bytes that were left over (`piece`, which is what `run_turn` does); at the end of the input
-- what is left over is a broken line or none (`ended`, which is what `finish` does); and the program may leave once
-- the card is over, whatever is still to come (`over`, which is what `is_over` tells).
pub data Run : World → List ℕ → List (List ℕ) → List ℕ → Type 0 where
  ended : {w : World} {s : List ℕ} → Short s
      → Run w s [] (output_bytes (last_output (end_says w.watch.stage (length s))))
  piece : {w v : World} {s t c o p : List ℕ} {cs : List (List ℕ)} → Goes w (s ++ c) o v t → Run v t cs p
      → Run w s (c ∷ cs) (o ++ p)
  over : {w : World} {s : List ℕ} {cs : List (List ℕ)} → w.watch.stage.phase ≡ P.Over → Run w s cs []

-- SPEC 11.2: in whatever pieces a card comes, what is printed is what the definition says of all its bytes.
pub record Program : Type 0 where
  pub prints : {cs : List (List ℕ)} {o : List ℕ} → Run start_world [] cs o → o ≡ printed (concat cs)
