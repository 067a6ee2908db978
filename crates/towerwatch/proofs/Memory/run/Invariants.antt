-- `towerwatch::Memory::run`: from the start the turns have come to what the memory holds (`Reached`), and the bytes
-- that may still come fall.
use Rattle.std.proofs.Common.{length, take}
use Rattle.player.specs.Card.{held_by}
use Rattle.towerwatch.proofs.Progress.{Reached, budget}
use Rattle.towerwatch.proofs.Memory.run.Given as goal

abbrev pub invariant-loop-stdin : goal.invariant-loop-stdin
invariant-loop-stdin l = Reached (held_by l.self.player) (take l.self.to l.self.buf.now) l.got l.shown

abbrev pub decreases-loop-stdin : goal.decreases-loop-stdin
decreases-loop-stdin l = budget l.self.player.watch (length (take l.self.to l.self.buf.now))
