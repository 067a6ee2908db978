-- What is found is marked, and so is what the first `done` of it refer to (`Reaching`).
use Prim.Native.Nat.{◌-◌}
use Rattle.packer.specs.Marker.{marking_of, SameBuffers}
use Rattle.packer.proofs.Reaching.{Reaching}
use Rattle.packer.proofs.mark.Given as goal

abbrev pub invariant-loop-done : goal.invariant-loop-done
invariant-loop-done l =
    SameBuffers l.marker l.initial.marker
    × Reaching l.table l.n l.fn.marks l.fn.found (marking_of l.marker) l.done

abbrev pub decreases-loop-done : goal.decreases-loop-done
decreases-loop-done l = l.n - l.done
