-- The records of the chunks that are passed have left their marks.
use Rattle.std.proofs.Common.{◌≡◌, take}
use Rattle.std.specs.List.{fold}
use Rattle.emitter.specs.Machine.{marked, record_in}
use Rattle.emitter.proofs.mark_all.Given as goal

abbrev pub invariant-loop-numbers : goal.invariant-loop-numbers
invariant-loop-numbers l =
    l.named ≡ fold (λ n c. marked (record_in c) n) l.fn.named (take l.numbers-index l.numbers-items)
