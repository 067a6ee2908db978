-- `towerwatch::hand`: each write begins where the one before left off (`Taken`), and the bytes that are left fall.
use Rattle.std.proofs.Common.{◌-◌}
use Rattle.towerwatch.proofs.Handing.{Taken}
use Rattle.towerwatch.proofs.hand.Given as goal

abbrev pub invariant-loop-from : goal.invariant-loop-from
invariant-loop-from l = Taken l.out l.n l.at l.from

abbrev pub decreases-loop-from : goal.decreases-loop-from
decreases-loop-from l = l.n - l.from
