-- `towerwatch::hand` meets its contract: each write begins where the one before left off (`Taken`). Assumes nothing.
use Rattle.std.proofs.Common.{arith}
use Rattle.towerwatch.proofs.Handing.{taken-all, taken_more, taken-stuck}
use Rattle.towerwatch.proofs.hand.Goals as goal

-- A write took none,
pub returns-then-k-eq0 : goal.returns-then-k-eq0
returns-then-k-eq0 c =
    taken-stuck c.loop-from.invariant c.requires c.write-k.ensures (omega arith) c.if-k-eq0.true

-- or some;
pub loop-from-preserved : goal.loop-from-preserved
loop-from-preserved c = taken_more c.loop-from.invariant c.requires c.write-k.ensures (omega arith)

-- or all are taken.
pub returns : goal.returns
returns c = taken-all c.loop-from.invariant (omega arith)
