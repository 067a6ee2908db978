-- One number more is stored.
use Rattle.std.proofs.Common.{arith}
use Rattle.cards.proofs.Numbers.{listing_more}
use Rattle.cards.proofs.parameters_of.Goals as goal

pub loop-p-preserved : goal.loop-p-preserved
loop-p-preserved c = listing_more c.loop-p.invariant (omega arith) c.in_ok-found.ensures
