-- `fN=` is scanned, its N is compared with the line's, and an equation's text is read after it.
use Rattle.lustre_read.proofs.Lined.{line_absent, line_other, end_told}
use Rattle.lustre_read.proofs.read_line.Goals as goal

pub returns-in_err-own : goal.returns-in_err-own
returns-in_err-own c =
    rw c.from_residual.ensures
    (line_absent c.args.text.now c.args.p c.args.i c.requires _ c.only.ensures c.in_err-own.ensures)

pub returns-then-own-i : goal.returns-then-own-i
returns-then-own-i c =
    line_other c.args.text.now c.args.p c.args.i c.requires _ c.only.ensures c.in_ok-own.own.numbers
    c.in_ok-own.own.next c.in_ok-own.ensures c.if-own-i.true

pub returns : goal.returns
returns c =
    end_told c.args.text.now c.args.p c.args.i c.requires _ c.only.ensures c.in_ok-own.own.numbers
    c.in_ok-own.own.next c.in_ok-own.ensures c.read_end.result c.if-own-i.false c.read_end.ensures
