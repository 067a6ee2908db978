-- The signals from j on are left.
use Rattle.limits.specs.Limits.{signal_count}
use Rattle.emitter.proofs.Header.{Settling}
use Rattle.emitter.proofs.settle_all.Given as goal

abbrev pub invariant-loop-j : goal.invariant-loop-j
invariant-loop-j l =
    Settling signal_count l.initial.table l.initial.named l.initial.next l.table l.named l.next l.j
