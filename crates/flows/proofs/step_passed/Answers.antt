-- What is run where the check is passed is the step.
use Rattle.std.proofs.Common.{sym, ◌∙◌}
use Rattle.flows.proofs.Checks.{step-passed}
use Rattle.flows.proofs.Lists.{step-ticks}
use Rattle.flows.proofs.step_passed.Goals as goal

pub run-requires : goal.run-requires
run-requires c =
    let p = step-passed _ _ _ _ _ _ _ c.requires in
    (p.0.closed, p.1, p.2)

pub invariant_of-table : goal.invariant_of-table
invariant_of-table c = record { whole = (step-passed _ _ _ _ _ _ _ c.requires).0.whole }

pub returns : goal.returns
returns c = c.run.ensures ∙ sym (step-ticks _ _ _ _ _ _ _ c.requires)
