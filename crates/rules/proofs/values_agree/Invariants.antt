-- What is left of the records decides.
use Rattle.std.proofs.Common.{◌≡◌, length}
use Rattle.rules.specs.Computed.{values_agree}
use Rattle.rules.proofs.values_agree.Given as goal

abbrev pub invariant-loop-rest : goal.invariant-loop-rest
invariant-loop-rest l = values_agree l.ps l.qs l.rest ≡ values_agree l.ps l.qs l.records

abbrev pub decreases-loop-rest : goal.decreases-loop-rest
decreases-loop-rest l = length l.rest
