-- `streams::read` meets its contract: the call was made. Assumes nothing.
use Rattle.streams.specs.Calls.{read_made}
use Rattle.streams.specs.declared.Call.TheVariants as C
use Rattle.streams.proofs.read.Goals as goal

pub returns-clause-came : goal.returns-clause-came
returns-clause-came c = record { call = read_made C.Made _ _ }
