-- A piece after another: the lines of both, and the world and the bytes left over after both, which are those after the
-- second one, from the first one's on. Assumes nothing.
use mathlib.Core.Path.{◌≡◌, refl, ◌∙◌, sym, ap}
use mathlib.Core.Bool.{Bool, true, false, false≢true}
use mathlib.Core.List.{List, [], ◌∷◌, ◌++◌}
use Prim.Native.Nat.{ℕ}
use lib.Dec.{eqb}
use Rattle.lists.specs.Text.{line_end}
use Rattle.cards.specs.Lines.{Cut, cut_as, with_line, push, push_on, cut, over_long}
use Rattle.cards.specs.Says.{is_over}
use Rattle.player.specs.Card.{World, lined}
use Rattle.feeder.specs.Feed.{after_lines, after_tail, fed_world, left_over}

-- Lines in front.
abbrev with_lines : List (List ℕ) → Cut → Cut
with_lines ls c = cut_as (ls ++ c.whole) c.tail

push-lines : (b : ℕ) (c : List ℕ) → eqb b line_end ≡ false → (ls : List (List ℕ)) (t : List ℕ)
    → push b (with_lines ls (cut (t ++ c))) ≡ with_lines (push_on b ls t).whole (cut ((push_on b ls t).tail ++ c))
unfolding cut
push-lines b c e [] t = rw e refl
push-lines b c e (l ∷ ls) t = refl

-- The lines of both are those of the first, and then those of its last bytes with the second.
abbrev CutBoth : List ℕ → List ℕ → Type 0
CutBoth r c = cut (r ++ c) ≡ with_lines (cut r).whole (cut ((cut r).tail ++ c))

cut-split : (b : ℕ) (r c : List ℕ) (t : Bool) → eqb b line_end ≡ t → CutBoth r c → CutBoth (b ∷ r) c
unfolding cut
cut-split b r c true e ih = rw e (ap (with_line []) ih)
cut-split b r c false e ih = rw e (ap (push b) ih ∙ push-lines b c e (cut r).whole (cut r).tail)

cut-both : (r c : List ℕ) → CutBoth r c
unfolding cut
cut-both [] c = refl
cut-both (b ∷ r) c = cut-split b r c (eqb b line_end) refl (cut-both r c)

after_both : (w : World) (ls ms : List (List ℕ)) → after_lines w (ls ++ ms) ≡ after_lines (after_lines w ls) ms
unfolding after_lines
after_both w [] ms = refl
after_both w (l ∷ ls) ms = after_both (lined w l).world ls ms

-- What is true of both, where the first one does not end the card.
pub record Joined (w : World) (r c : List ℕ) : Type 0 where
  pub world : fed_world w (r ++ c) ≡ fed_world (fed_world w r) (left_over r ++ c)
  pub rest : left_over (r ++ c) ≡ left_over (left_over r ++ c)

joined_as : (w : World) (r c : List ℕ) (t : Bool) → over_long (cut r).tail ≡ t
    → is_over (fed_world w r).watch.stage.phase ≡ false → Joined w r c
unfolding fed_world after_tail left_over
joined_as w r c true e o = absurd (false≢true (sym (rw e at o)))
joined_as w r c false e o =
    record {
      world = rw (e, cut-both r c, after_both w (cut r).whole (cut ((cut r).tail ++ c)).whole) refl;
      rest = rw (e, cut-both r c) refl;
    }

pub joined : (w : World) (r c : List ℕ) → is_over (fed_world w r).watch.stage.phase ≡ false → Joined w r c
joined w r c o = joined_as w r c (over_long (cut r).tail) refl o
