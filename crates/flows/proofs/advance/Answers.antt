-- The cell of a memory gets the flow of its operand, and any other is kept.
use Rattle.std.proofs.Common.{refl, sym, ◌∙◌}
use Rattle.flows.specs.Flow.{memories_set}
use Rattle.flows.proofs.Buffers.{set-memory, set_other}
use Rattle.flows.proofs.advance.Goals as goal
use Rattle.flows.proofs.advance.Goals.{then-is_memory, else-is_memory}

pub loop-i-init : goal.loop-i-init
unfolding memories_set
loop-i-init c = refl

pub loop-i-preserved : goal.loop-i-preserved
loop-i-preserved c =
    let memory = sym (rw c.equation-e.ensures at c.is_memory.ensures) in
    let set = c.loop-i.invariant in
    elim c.if-is_memory.branch [
      | then-is_memory w ↦ set-memory _ _ _ _ _ set (memory ∙ w.if-is_memory.true) (rw c.equation-e.ensures at w.number_at.ensures) w.state-is
      | else-is_memory w ↦ set_other _ _ _ _ set (memory ∙ w.if-is_memory.false) w.state-is
    ]
