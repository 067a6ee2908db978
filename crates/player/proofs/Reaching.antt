-- The stage after a line: it is the one that the line leads to, unless the card is over, and fewer lines may come
-- after it (`rank` of the crate cards). Assumes nothing.
use mathlib.Core.Path.{◌≡◌, refl, ◌∙◌, sym, ap}
use mathlib.Core.Bool.{false, false≢true}
use mathlib.Core.List.{List}
use Prim.Native.Nat.{ℕ, ◌+◌, ◌≤◌, ◌<◌}
use lib.ListN.{length}
use Rattle.limits.specs.Limits.{line_limit}
use Rattle.observers.specs.Demand.{Compiled}
use Rattle.flows.specs.Step.{Stepped}
use Rattle.cards.specs.Says.{Says, is_over, line_says, stage_after}
use Rattle.cards.specs.Says.Says.{edition, parameters, rule, count, tick, refused, nothing}
use Rattle.cards.specs.declared.Stage.{Stage}
use Rattle.cards.proofs.Stages.{rank, near}
use Rattle.player.specs.Card.{velocities_in, rule_made, ruled_world, step_of, stepped_world}
use Rattle.player.specs.Card.{World, Effect, with_rule, with_step, played_to, played, lined}
use Rattle.std.specs.Prelude.{Ok, Err}

-- Where the card is not over after a line, its stage is the one that the line leads to.
abbrev Reaches : Stage → Effect → Type 0
Reaches k t = is_over t.world.watch.stage.phase ≡ false → t.world.watch.stage ≡ k

rule-reaches : (k : Stage) (r : Compiled) (w : World) → Reaches k (with_rule k r w)
rule-reaches k (Ok n) w o = refl
rule-reaches k (Err r) w o = absurd (false≢true (sym o))

step-reaches : (k : Stage) (r : Stepped) (w : World) → Reaches k (with_step k r w)
step-reaches k (Ok v) w o = refl
step-reaches k (Err r) w o = absurd (false≢true (sym o))

played-reaches : (k : Stage) (s : Says) (w : World) → Reaches k (played_to k s w)
played-reaches k (edition e) w o = refl
played-reaches k (parameters ps) w o = refl
played-reaches k (rule text) w o =
    let r = rule_made w.context text w.table w.state in rule-reaches k r.answer (ruled_world r w) o
played-reaches k (count m) w o = refl
played-reaches k (tick t) w o =
    let a = step_of t w in step-reaches k a.answer (stepped_world a w) o
played-reaches k (refused r) w o = absurd (false≢true (sym o))
played-reaches k nothing w o = absurd (false≢true (sym o))

lined-reaches : (w : World) (l : List ℕ)
    → Reaches (stage_after w.watch.stage (line_says (velocities_in w) w.watch.stage l)) (lined w l)
unfolding lined played
lined-reaches w l o = played-reaches _ (line_says (velocities_in w) w.watch.stage l) w o

-- So it is not over-long, and fewer lines may come after it.
pub record Nearer (w : World) (l : List ℕ) : Type 0 where
  pub short : length l < line_limit
  pub fewer : rank (lined w l).world.watch.stage + 1 ≤ rank w.watch.stage

pub nearer : (w : World) (l : List ℕ) → is_over (lined w l).world.watch.stage.phase ≡ false → Nearer w l
nearer w l o =
    let e = lined-reaches w l o in
    let h = near (velocities_in w) w.watch.stage l (ap (λ (k : Stage). is_over k.phase) (sym e) ∙ o) in
    record { short = h.short; fewer = rw e h.fewer }
