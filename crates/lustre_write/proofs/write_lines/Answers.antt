-- At each equation, its line is placed in the tail that those before left.
use Rattle.lustre_write.proofs.Placing.{lines_none, lines_more}
use Rattle.lustre_write.proofs.write_lines.Goals as goal

pub loop-i-init : goal.loop-i-init
loop-i-init c = lines_none _ _

pub loop-i-preserved : goal.loop-i-preserved
loop-i-preserved c = lines_more _ _ _ c.loop-i.invariant c.min-q.ensures c.write_line-at.ensures
