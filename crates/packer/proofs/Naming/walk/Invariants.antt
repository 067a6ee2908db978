-- No class after the place `at` has the key (`Walked`), and the places go down.
use Rattle.lists.specs.Number.{number_at}
use Rattle.packer.specs.Round.{bucket_of}
use Rattle.packer.proofs.Buckets.{Walked}
use Rattle.packer.proofs.Naming.walk.Given as goal

abbrev pub invariant-loop-at : goal.invariant-loop-at
invariant-loop-at l =
    Walked l.self.table.now (bucket_of l.n) (number_at l.self.before.now) (number_at l.self.names.now) l.i l.at

abbrev pub decreases-loop-at : goal.decreases-loop-at
decreases-loop-at l = l.at
