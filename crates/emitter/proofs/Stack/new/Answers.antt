-- No number waits.
use Rattle.std.proofs.Common.{refl}
use Rattle.emitter.specs.Machine.{stacked}
use Rattle.emitter.proofs.Stack.new.Goals as goal

pub returns : goal.returns
unfolding stacked
returns c = refl
