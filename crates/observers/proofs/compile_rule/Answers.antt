-- The text is no rule, there is no room for a table, or the observer's equations are written.
use Rattle.std.proofs.lemmas.Result.{err_from_is_err_and}
use native.Mathlib.Omega.{arith}
use Rattle.limits.specs.Context.{standard_context}
use Rattle.words.proofs.Bounds.{standard-ranged}
use Rattle.rules.proofs.Laid.{standard-laid, front_of, refused_as}
use Rattle.observers.specs.Demand.Compiles.{not-read, no_room}
use Rattle.observers.proofs.Demand.{has-rule, refused-compiled, short-compiled, emitted-rule}
use Rattle.observers.proofs.compile_rule.Goals as goal

pub returns-in_err-records-clause-table_after : goal.returns-in_err-records-clause-table_after
returns-in_err-records-clause-table_after c =
    let p = err_from_is_err_and c.from_residual.result c.from_residual.ensures.1 in
    let laid = standard-laid c.standard.ensures _ c.read_tree.ensures in
    rw (p.1, p.2) (refused-compiled standard_context c.args.text.now _ (refused_as laid c.in_err-records.was))

pub returns-in_err-records-clause-compiles : goal.returns-in_err-records-clause-compiles
returns-in_err-records-clause-compiles c =
    let p = err_from_is_err_and c.from_residual.result c.from_residual.ensures.1 in
    let laid = standard-laid c.standard.ensures _ c.read_tree.ensures in
    rw (p.1, p.2) (not-read (has-rule (refused_as laid c.in_err-records.was)))

pub returns-then-table-lt-TABLE-clause-table_after : goal.returns-then-table-lt-TABLE-clause-table_after
returns-then-table-lt-TABLE-clause-table_after c =
    let laid = standard-laid c.standard.ensures _ c.read_tree.ensures in
    let h = front_of laid (omega arith) c.in_ok-records.was in
    short-compiled standard_context c.args.text.now _ h.tree h.is c.if-table-lt-TABLE.true

pub returns-then-table-lt-TABLE-clause-compiles : goal.returns-then-table-lt-TABLE-clause-compiles
returns-then-table-lt-TABLE-clause-compiles c =
    let laid = standard-laid c.standard.ensures _ c.read_tree.ensures in
    let h = front_of laid (omega arith) c.in_ok-records.was in
    no_room (has-rule h.is) c.if-table-lt-TABLE.true

pub returns-clause-table_after : goal.returns-clause-table_after
returns-clause-table_after c =
    let laid = standard-laid c.standard.ensures _ c.read_tree.ensures in
    let h = front_of laid (omega arith) c.in_ok-records.was in
    (emitted-rule standard_context standard-ranged c.args.text.now c.args.table.now h.tree h.is
    c.if-table-lt-TABLE.false _ _ _ h.front c.emit_observer-n.ensures).0

pub returns-clause-compiles : goal.returns-clause-compiles
returns-clause-compiles c =
    let laid = standard-laid c.standard.ensures _ c.read_tree.ensures in
    let h = front_of laid (omega arith) c.in_ok-records.was in
    (emitted-rule standard_context standard-ranged c.args.text.now c.args.table.now h.tree h.is
    c.if-table-lt-TABLE.false _ _ _ h.front c.emit_observer-n.ensures).1
