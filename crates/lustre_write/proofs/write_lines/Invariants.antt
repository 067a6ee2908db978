-- The lines of the first i equations are placed.
use Rattle.std.proofs.Common.{◌*◌}
use Rattle.lustre.specs.Text.{lines}
use Rattle.lustre_write.specs.Placed.{Placed, line_room}
use Rattle.lustre_write.proofs.write_lines.Given as goal

abbrev pub invariant-loop-i : goal.invariant-loop-i
invariant-loop-i l = Placed (line_room * l.i) (lines l.table.numbers.now l.i) l.initial.out l.out l.at
