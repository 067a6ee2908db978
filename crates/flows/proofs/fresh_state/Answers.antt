-- One case for each test, where those before it are passed; the state is kept unless all are.
use Rattle.std.proofs.Common.{sym, drop}
use Rattle.std.proofs.lemmas.Result.{err_from_is_err_and}
use borrow.Author.Tests.{lt-leb, le-leb}
use Rattle.limits.specs.Limits.{velocity_count}
use Rattle.flows.specs.Step.{fresh_tests, fresh_checked, freshened}
use Rattle.tables.proofs.Checks.{refused-table, passed-both, checked-fitting}
use Rattle.flows.proofs.fresh_state.Goals as goal

pub returns-in_err-check_table : goal.returns-in_err-check_table
unfolding freshened fresh_checked
returns-in_err-check_table c =
    let args = c.args in
    let p = err_from_is_err_and c.from_residual.result c.from_residual.ensures.1 in
    let others = drop 2 (fresh_tests velocity_count args.table.now args.n args.state.now) in
    rw (p.1, p.2, refused-table velocity_count args.table.now args.n _ others (sym c.in_err-check_table.ensures))

pub returns-then-state-n : goal.returns-then-state-n
unfolding freshened fresh_checked
returns-then-state-n c =
    let p = passed-both _ _ _ (sym c.in_ok-check_table.ensures) in
    rw (p.0, p.1, lt-leb _ _ c.if-state-n.true)

pub invariant_of-reset : goal.invariant_of-reset
invariant_of-reset c = record { whole = (checked-fitting _ _ _ (sym c.in_ok-check_table.ensures)).whole }

pub returns : goal.returns
unfolding freshened fresh_checked
returns c =
    let p = passed-both _ _ _ (sym c.in_ok-check_table.ensures) in
    rw (p.0, p.1, le-leb _ _ c.if-state-n.false, ← c.reset.ensures)
