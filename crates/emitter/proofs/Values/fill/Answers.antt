-- No slot, one slot more, with a row or with none, and all.
use Rattle.std.proofs.Common.{arith}
use Rattle.emitter.proofs.Equations.{filling-none, filling-row, filling-empty, filling-all}
use Rattle.emitter.proofs.Values.fill.Goals as goal
use Rattle.emitter.proofs.Values.fill.Goals.{in-Some, in_default}

pub loop-row-init : goal.loop-row-init
loop-row-init c = filling-none _ _ _ _

pub loop-row-preserved : goal.loop-row-preserved
loop-row-preserved c = elim c.match-row.branch [
  | in-Some w ↦ rw (w.t-is, w.next-is) (filling-row w.in-Some.r c.loop-row.invariant (omega arith) w.in-Some.is w.put_row.ensures)
  | in_default w ↦ rw (w.t-is, w.next-is) (filling-empty c.loop-row.invariant (omega arith) w.in_default.is)
]

pub returns : goal.returns
returns c = filling-all c.loop-row.invariant (omega arith)
