-- `feeder::feed`: what stands between two lines of the piece (`Between`). The bytes that are left fall.
use Rattle.std.proofs.Common.{◌-◌, length}
use Rattle.player.specs.Card.{held_by, SameArrays}
use Rattle.feeder.proofs.Feeding.{Between}
use Rattle.feeder.proofs.feed.Given as goal

abbrev pub invariant-loop-player : goal.invariant-loop-player
invariant-loop-player l = record {
  between : Between (held_by l.initial.player) l.bytes l.initial.out (held_by l.player) l.out l.used l.at;
  arrays : SameArrays l.initial.player l.player;
}

abbrev pub decreases-loop-player : goal.decreases-loop-player
decreases-loop-player l = length l.bytes - l.used
