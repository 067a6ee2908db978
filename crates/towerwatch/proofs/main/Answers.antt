-- `towerwatch::main`: the run begins with nothing left over, and the player as it is at the start. Assumes nothing.
use Rattle.std.proofs.Common.{rules, arith, refl}
use Rattle.feeder.proofs.Resuming.{short_none}
use Rattle.towerwatch.proofs.main.Goals as goal

pub invariant_of-memory : goal.invariant_of-memory
invariant_of-memory c = record {
  ready = (record { short = short_none; within = omega arith; size = search rules; room = search rules }, search rules);
}

pub run-requires : goal.run-requires
run-requires c = (rw c.begin.ensures, refl)
