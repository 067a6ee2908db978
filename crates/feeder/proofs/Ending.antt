-- A card comes to its end: the lines that may still come grow fewer with each line (`nearer`), and each has at most
-- 4,096 bytes, so the bytes that a piece brings are bounded by what the lines before it left. Assumes nothing.
use mathlib.Core.Path.{◌≡◌, refl, ◌∙◌, sym, ap}
use mathlib.Core.Bool.{Bool, true, false, false≢true}
use mathlib.Core.List.{List, [], ◌∷◌}
use Prim.Native.Nat.{ℕ, ◌+◌, ◌*◌, ◌≤◌}
use native.Mathlib.Omega.{arith}
use lib.ListN.{length}
use Rattle.limits.specs.Limits.{line_limit}
use Rattle.cards.specs.Lines.{over_long, cut}
use Rattle.cards.specs.Says.{is_over}
use Rattle.cards.specs.declared.Phase.TheVariants as P
use Rattle.cards.proofs.Lines.{lengths, cut-lengths}
use Rattle.cards.proofs.Stages.{is-over, rank}
use Rattle.player.specs.Card.{World, Effect, lined}
use Rattle.player.proofs.Playing.{over-lined}
use Rattle.player.proofs.Reaching.{nearer}
use Rattle.feeder.specs.Feed.{after_lines, after_tail, fed_world, left_over}

-- Once over, the card stays so.
over-stays : (ls : List (List ℕ)) (w : World) → w.watch.stage.phase ≡ P.Over
    → (after_lines w ls).watch.stage.phase ≡ P.Over
unfolding after_lines
over-stays [] w e = e
over-stays (l ∷ ls) w e =
    let d : (lined w l).world.watch.stage.phase ≡ P.Over =
    ap (λ (t : Effect). t.world.watch.stage.phase) (over-lined w l e) in
    over-stays ls (lined w l).world d

-- So it was not over before, where it is not over in the end.
not-before : (ls : List (List ℕ)) (w : World) (t : Bool) → is_over w.watch.stage.phase ≡ t
    → is_over (after_lines w ls).watch.stage.phase ≡ false → is_over w.watch.stage.phase ≡ false
not-before ls w true e o =
    absurd (false≢true (sym o ∙ ap is_over (over-stays ls w (is-over w.watch.stage.phase e))))
not-before ls w false e o = e

-- Where the card is not over after these lines, their bytes are at most 4,096 for each line fewer.
lines-near : (ls : List (List ℕ)) (w : World) → is_over (after_lines w ls).watch.stage.phase ≡ false
    → lengths ls + line_limit * rank (after_lines w ls).watch.stage ≤ line_limit * rank w.watch.stage
unfolding after_lines lengths
lines-near [] w o = omega arith
lines-near (l ∷ ls) w o =
    let next = (lined w l).world in
    let h = nearer w l (not-before ls next (is_over next.watch.stage.phase) refl o) in
    omega (arith, h.short, h.fewer, lines-near ls next o)

-- The same of a piece, and what is left over of it.
tail-near : (w : World) (s : List ℕ) (t : Bool) → over_long (cut s).tail ≡ t
    → is_over (fed_world w s).watch.stage.phase ≡ false
    → length s + line_limit * rank (fed_world w s).watch.stage
    ≤ line_limit * rank w.watch.stage + length (left_over s)
unfolding fed_world after_tail left_over
tail-near w s true e o = absurd (false≢true (sym (rw e at o)))
tail-near w s false e o = rw e (omega (arith, cut-lengths s, lines-near (cut s).whole w (rw e at o)))

pub fed-near : (w : World) (s : List ℕ) → is_over (fed_world w s).watch.stage.phase ≡ false
    → length s + line_limit * rank (fed_world w s).watch.stage
    ≤ line_limit * rank w.watch.stage + length (left_over s)
fed-near w s o = tail-near w s (over_long (cut s).tail) refl o
