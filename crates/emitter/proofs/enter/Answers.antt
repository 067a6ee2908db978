-- The node is the record's, its rows are put, and its result is on the stack.
use Rattle.emitter.proofs.Entry.{entered}
use Rattle.emitter.proofs.enter.Goals as goal

pub returns : goal.returns
returns c =
    rw (c.from.ensures, c.named-2.ensures)
    (entered c.requires.node c.values_at-values.ensures c.fill-next.ensures (rw c.named.ensures at c.push.ensures))
