-- `streams::write` meets its contract: the call was made, and what it took is within the part that is lent to the
-- system's write, the one that the contract names. Assumes nothing.
use Rattle.std.proofs.Common.{rules}
use Rattle.streams.specs.Calls.{write_made}
use Rattle.streams.specs.declared.Call.TheVariants as C
use Rattle.streams.proofs.write.Goals as goal

pub returns : goal.returns
returns c = record { call = write_made C.Made _ _ _; took = search rules }
