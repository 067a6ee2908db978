-- The numbers are stored in what is left of the table at the equation's place.
use Rattle.std.proofs.Common.{refl}
use Rattle.emitter.proofs.Equations.{equation-put}
use Rattle.emitter.proofs.put.Goals as goal

pub returns-then-rest-lt4 : goal.returns-then-rest-lt4
returns-then-rest-lt4 c = equation-put _ _ _ _ _ _ _ _ _ c.min-i.ensures refl c.copy.ensures

pub returns-else-rest-lt4 : goal.returns-else-rest-lt4
returns-else-rest-lt4 c = equation-put _ _ _ _ _ _ _ _ _ c.min-i.ensures refl refl
