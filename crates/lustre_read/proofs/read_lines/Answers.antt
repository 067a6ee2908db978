-- At each line, one equation more is read.
use Rattle.std.proofs.Common.{arith}
use Rattle.lustre_read.proofs.Lined.{lines_none, lines_next}
use Rattle.lustre_read.proofs.read_lines.Goals as goal

pub loop-i-init : goal.loop-i-init
loop-i-init c = lines_none _ _ _

pub loop-i-preserved : goal.loop-i-preserved
loop-i-preserved c =
    lines_next _ c.in-Some.line.numbers c.loop-i.invariant c.in-Some.ensures c.loop-i-test.true (omega arith)
    c.store_equation.ensures
