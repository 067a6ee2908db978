-- In whatever pieces a card is handed over, what they print together is what the definition says of the whole card
-- (specs/Pieces.antt): `whole` from any world, `program` from the start. Assumes nothing.
use mathlib.Core.Path.{◌≡◌, ◌∙◌, sym, ap}
use mathlib.Core.List.{List, ◌++◌, append_assoc}
use Prim.Native.Nat.{ℕ}
use Rattle.player.specs.Card.{World, prints, printed}
use Rattle.feeder.specs.Pieces.{concat, Run, Program}
use Rattle.feeder.specs.Pieces.Run.{ended, piece, over}
use Rattle.cards.proofs.Lines.{append-nil}
use Rattle.player.proofs.Printing.{over-prints}
use Rattle.feeder.proofs.Resuming.{ends}

pub whole : {w : World} {s : List ℕ} {cs : List (List ℕ)} {o : List ℕ} → Run w s cs o → o ≡ prints w (s ++ concat cs)
unfolding concat
whole (ended {w = w} {s = s} h) = sym (ap (prints w) (append-nil s) ∙ ends w s h)
whole (piece {w = w} {v = v} {s = s} {t = t} {c = c} {o = o} {cs = cs} g r) =
    ap (λ (l : List ℕ). o ++ l) (whole r) ∙ sym (g.tells (concat cs)) ∙ ap (prints w) (append_assoc s c (concat cs))
whole (over {w = w} {s = s} {cs = cs} e) = sym (over-prints w (s ++ concat cs) e)

pub program : Program
unfolding printed
program = record { prints = λ r. whole r }
