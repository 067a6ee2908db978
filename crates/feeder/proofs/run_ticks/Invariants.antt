-- `feeder::run_ticks`: what stands between two lines of the piece (`Between`), and no step has a refusal. The ticks
-- that are left fall.
use Rattle.player.specs.Card.{held_by, SameArrays}
use Rattle.feeder.specs.Feed.{Admitted}
use Rattle.feeder.proofs.Feeding.{Between}
use Rattle.feeder.proofs.run_ticks.Given as goal

abbrev pub invariant-loop-player : goal.invariant-loop-player
invariant-loop-player l = record {
  between : Between (held_by l.initial.player) l.bytes l.initial.out (held_by l.player) l.out l.used l.at;
  admits : Admitted (held_by l.player);
  arrays : SameArrays l.initial.player l.player;
}

abbrev pub decreases-loop-player : goal.decreases-loop-player
decreases-loop-player l = l.player.watch.stage.left
