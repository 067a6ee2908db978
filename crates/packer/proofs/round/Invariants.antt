-- The buffers are those after the first i turns.
use Rattle.std.proofs.Common.{◌≡◌}
use Rattle.lists.specs.Number.{number_at}
use Rattle.packer.specs.Round.{chains, round_of}
use Rattle.packer.proofs.round.Given as goal

abbrev pub invariant-loop-i : goal.invariant-loop-i
invariant-loop-i l =
    chains l.names l.next l.heads
    ≡ round_of l.table (number_at l.before) l.n (chains l.fn.names l.fn.next l.fn.heads) l.i
