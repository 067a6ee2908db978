-- A refused step leaves what was lent as it was.
use Rattle.std.proofs.lemmas.Result.{err_from_is_err_and}
use Rattle.flows.specs.Step.{stepped}
use Rattle.flows.proofs.step.Goals as goal

pub returns-in_err-step_checked : goal.returns-in_err-step_checked
unfolding stepped
returns-in_err-step_checked c =
    let p = err_from_is_err_and c.from_residual.result c.from_residual.ensures.1 in
    rw (p.1, p.2, ← c.in_err-step_checked.ensures)
