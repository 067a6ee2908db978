-- The first i classes are replaced by places (`Placing`).
use Rattle.packer.proofs.Places.{Placing}
use Rattle.packer.proofs.place.Given as goal

abbrev pub invariant-loop-i : goal.invariant-loop-i
invariant-loop-i l = Placing l.table l.n l.initial.names l.names l.size l.i
