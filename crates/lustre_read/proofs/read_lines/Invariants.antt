-- The lines of the first i equations are read into the table.
use Rattle.lustre_read.specs.Inner.{LinesAt}
use Rattle.lustre_read.proofs.read_lines.Given as goal

abbrev pub invariant-loop-i : goal.invariant-loop-i
invariant-loop-i l = LinesAt l.text l.p l.table l.i l.next
