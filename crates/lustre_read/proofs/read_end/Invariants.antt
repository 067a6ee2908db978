-- None of the forms before this one is found.
use Rattle.lustre_read.proofs.Lined.{NoneBelow}
use Rattle.lustre_read.proofs.read_end.Given as goal

abbrev pub invariant-loop-form : goal.invariant-loop-form
invariant-loop-form l = NoneBelow l.text l.p l.form-index
