-- `fN=` is placed, and then the equation's text in the tail that it leaves.
use Rattle.tables.specs.Table.{equation_at}
use Rattle.lustre_write.proofs.Writing.{line_placed}
use Rattle.lustre_write.proofs.write_line.Goals as goal

pub returns : goal.returns
returns c =
    line_placed c.args.i c.min-q.result c.only.result c.equation.result (equation_at c.args.table.numbers.now c.args.i)
    c.only.ensures c.equation.ensures c.write_form-p.ensures c.min-q.ensures c.write_end.ensures
