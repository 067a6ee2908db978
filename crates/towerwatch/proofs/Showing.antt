-- What a whole run hands over is what the card shows, since what is printed for a card is what it shows. Assumes
-- nothing.
use mathlib.Core.List.{List, ◌++◌}
use mathlib.Core.Path.{◌≡◌, sym, subst}
use mathlib.Core.Logic.{inl, inr, ⊎_elim}
use Prim.Native.Nat.{ℕ}
use Rattle.player.specs.Card.{start_world, prints, printed}
use Rattle.player.specs.Shows.{Shows}
use Rattle.player.proofs.Shown.{shown}
use Rattle.feeder.specs.Feed.{fed_world, left_over}
use Rattle.towerwatch.specs.Run.{Ends, Fed, Whole}
use Rattle.towerwatch.specs.Program.{Showing, Program}
use Rattle.towerwatch.specs.declared.Total.{Total}
use Rattle.towerwatch.specs.declared.Stand.{Stand}
use Rattle.towerwatch.specs.declared.Stand.TheVariants as S

-- What is printed from the start is shown.
printed-shows : (card out : List ℕ) → out ≡ prints start_world card → Shows card out
unfolding printed
printed-shows card out e = subst (Shows card) (sym e) (shown card)

module _ (over : Type 0) (i o : List ℕ) where
  fed-shows : Fed start_world i o → (more : List ℕ) → (rest : List ℕ) × Shows (i ++ more) (o ++ rest)
  fed-shows f more =
      let rest = prints (fed_world start_world i) (left_over i ++ more) in
      (rest, printed-shows (i ++ more) (o ++ rest) (sym (f.tells more)))

  ends-show : (k : Stand) → Ends over k start_world i o → Showing over k i o
  ends-show S.Reading e = e
  ends-show S.Ended e = (e.0, printed-shows i o e.1)
  ends-show S.Over e = λ more. printed-shows (i ++ more) o (e more)
  ends-show S.Stuck e = ⊎_elim (λ h. inl (h.0, printed-shows i o h.1)) (λ h. inr (fed-shows h)) e

pub whole-program : (r : Total) → Whole r → Program r
whole-program r w =
    record {
      input = w.input;
      output = w.output;
      got = w.got;
      shown = w.shown;
      turned = w.turned;
      shows = ends-show _ w.input w.output r.stand w.ends;
    }
