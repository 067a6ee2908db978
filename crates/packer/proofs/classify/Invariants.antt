-- What is known from round to round (`Rounding`). The sum of the classes grows, and it has a bound.
use Prim.Native.Nat.{◌*◌, ◌-◌}
use Rattle.lists.specs.Number.{number_at}
use Rattle.packing.proofs.Searches.{total}
use Rattle.packer.specs.Round.{chains}
use Rattle.packer.proofs.Rounds.{Rounding}
use Rattle.packer.proofs.classify.Given as goal

abbrev pub invariant-loop-names : goal.invariant-loop-names
invariant-loop-names l =
    Rounding l.table l.n (chains l.fn.names l.fn.next l.fn.heads) l.fn.before (chains l.names l.next l.heads) l.before

abbrev pub decreases-loop-names : goal.decreases-loop-names
decreases-loop-names l = l.n * l.n - total (number_at l.before) l.n
