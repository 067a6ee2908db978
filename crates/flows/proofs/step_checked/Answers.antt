-- What the table's check refuses, and too little room.
use Rattle.std.proofs.Common.{sym, drop}
use borrow.Author.Tests.{lt-leb, le-leb}
use Rattle.std.proofs.lemmas.Result.{err_from_is_err_and}
use Rattle.limits.specs.Limits.{standard_cap, velocity_count}
use Rattle.tables.proofs.Checks.{refused-table, passed-both, checked-fitting}
use Rattle.flows.specs.Step.{step_tests, step_checked}
use Rattle.flows.proofs.step_checked.Goals as goal
use Rattle.flows.proofs.step_checked.Goals.{then-state-n-via-then-state-n, then-state-n-via-else-state-n+then-values-n}

pub returns-in_err-check_table : goal.returns-in_err-check_table
unfolding step_checked
returns-in_err-check_table c =
    let args = c.args in
    let p = err_from_is_err_and c.from_residual.result c.from_residual.ensures.1 in
    let tests =
    step_tests standard_cap velocity_count args.table.now args.n args.state.now args.values.now args.tick in
    rw (p.1, p.2) (sym (refused-table _ _ _ _ (drop 2 tests) (sym c.in_err-check_table.ensures)))

pub returns-then-state-n : goal.returns-then-state-n
unfolding step_checked
returns-then-state-n c =
    let p = passed-both _ _ _ (sym c.in_ok-check_table.ensures) in
    elim c.then-state-n.branch [
      | then-state-n-via-then-state-n w ↦ rw (p.0, p.1, lt-leb _ _ w.if-state-n.true)
      | then-state-n-via-else-state-n+then-values-n w ↦
          rw (p.0, p.1, le-leb _ _ w.if-state-n.false, lt-leb _ _ w.if-values-n.true)
    ]

pub invariant_of-cells_fit : goal.invariant_of-cells_fit
invariant_of-cells_fit c = record { whole = (checked-fitting _ _ _ (sym c.in_ok-check_table.ensures)).whole }
