-- The first line, the equations' lines and the last lines stand one after the other, or no table writes the text.
use Rattle.std.proofs.Common.{arith}
use Rattle.std.proofs.lemmas.Grind.{common_steps}
use Rattle.lustre_read.proofs.Whole.{no_opening, no_closing, bytes_left, other_last, proposes}
use Rattle.lustre_read.proofs.read_proposal.Goals as goal
use Rattle.lustre_read.proofs.read_proposal.Goals.{then-n-lt-CLOSING-via-then-n-lt-CLOSING}
use Rattle.lustre_read.proofs.read_proposal.Goals.{then-n-lt-CLOSING-via-else-n-lt-CLOSING+then-ne}

pub returns-in_err-head : goal.returns-in_err-head
returns-in_err-head c =
    rw c.from_residual.ensures (no_opening c.args.text.now _ c.only.ensures c.in_err-head.ensures)

pub returns-in_err-tail : goal.returns-in_err-tail
returns-in_err-tail c =
    rw c.from_residual-in_err-tail.ensures
    (no_closing c.only.result c.in_ok-head.ensures c.read_lines-n.ensures _ c.only-2.ensures
    c.in_err-tail.ensures)

pub returns-then-tail-text : goal.returns-then-tail-text
returns-then-tail-text c =
    bytes_left c.only.result c.in_ok-head.ensures c.read_lines-n.ensures _ c.only-2.ensures
    c.in_ok-tail.tail.numbers c.in_ok-tail.tail.next c.in_ok-tail.ensures c.if-tail-text.true

pub returns-then-n-lt-CLOSING : goal.returns-then-n-lt-CLOSING
returns-then-n-lt-CLOSING c =
    other_last c.only.result c.in_ok-head.ensures c.read_lines-n.ensures _ c.only-2.ensures
    c.in_ok-tail.tail.numbers c.in_ok-tail.tail.next c.in_ok-tail.ensures
    (λ closed same.
    elim c.then-n-lt-CLOSING.branch [
      | then-n-lt-CLOSING-via-then-n-lt-CLOSING w ↦ omega arith
      | then-n-lt-CLOSING-via-else-n-lt-CLOSING+then-ne w ↦ grind (arith, common_steps)
    ])

pub returns : goal.returns
returns c =
    proposes c.only.result c.in_ok-head.ensures c.read_lines-n.ensures _ c.only-2.ensures
    c.in_ok-tail.tail.numbers c.in_ok-tail.tail.next c.in_ok-tail.ensures (omega arith)
    c.if-n-lt-CLOSING.false (grind (arith, common_steps))
