-- The chunks are the arena's records.
use Rattle.emitter.specs.Machine.{marked, marks}
use Rattle.emitter.proofs.Records.{folded}
use Rattle.emitter.proofs.mark_all.Goals as goal
use mathlib.Core.Path.{◌∙◌}

pub returns : goal.returns
unfolding marks
returns c =
    c.loop-numbers.invariant
    ∙ folded (λ n r. marked r n) c.args.named.now c.args.arena.now _ _ c.as_chunks.ensures.front
    c.loop-numbers-test.false
