-- The table that was read writes the text, and is copied if there is room.
use Rattle.std.proofs.Common.{◌≡◌, Some, None, arith}
use Rattle.std.proofs.lemmas.Grind.{common_steps}
use Rattle.std.proofs.lemmas.Result.{err_from_is_err_and}
use Rattle.limits.specs.declared.Refusal.TheVariants.{NoTable}
use Rattle.lustre.specs.Read.AfterRead.{unread, no_room}
use Rattle.lustre_read.proofs.Answers.{none_read, some_read, few_equations, copied}
use Rattle.lustre_read.proofs.read_lustre.Goals as goal

pub returns-in_err-n : goal.returns-in_err-n
returns-in_err-n c =
    let p = err_from_is_err_and c.from_residual.result c.from_residual.ensures.1 in
    let why : c.in_err-n.field-0.0 ≡ NoTable = grind (arith, common_steps) in
    let none : c.read_table.result ≡ None = grind (arith, common_steps) in
    rw (p.1, p.2, why) (unread (none_read _ c.read_table.ensures none))

pub returns-then-table-lt-TABLE : goal.returns-then-table-lt-TABLE
returns-then-table-lt-TABLE c =
    let some : c.read_table.result ≡ Some c.in_ok-n.n = grind (arith, common_steps) in
    no_room (some_read c.read_table.ensures some) c.if-table-lt-TABLE.true

pub overflow_mul-n : goal.overflow_mul-n
overflow_mul-n c =
    let some : c.read_table.result ≡ Some c.in_ok-n.n = grind (arith, common_steps) in
    omega (arith, few_equations (some_read c.read_table.ensures some))

pub returns : goal.returns
returns c =
    let some : c.read_table.result ≡ Some c.in_ok-n.n = grind (arith, common_steps) in
    copied c.args.table.now _ (some_read c.read_table.ensures some) c.if-table-lt-TABLE.false c.copy.ensures
