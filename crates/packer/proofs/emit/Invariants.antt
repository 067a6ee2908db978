-- Before equation i, those kept below it are stored (`Emitting`).
use Rattle.packer.proofs.Emits.{Emitting}
use Rattle.packer.proofs.emit.Given as goal

abbrev pub invariant-loop-i : goal.invariant-loop-i
invariant-loop-i l = Emitting l.table l.n l.initial.second l.second l.size l.i
