-- Equation i is stored where it is kept.
use Rattle.std.proofs.Common.{◌∙◌}
use native.Mathlib.Omega.{arith}
use Rattle.packer.proofs.Emits.{not-zero, is_zero, emit-none, emit-length, emit-more, emit-few, emit-other}
use Rattle.packer.proofs.emit.Goals as goal
use Rattle.packer.proofs.emit.Goals.{then-marks-i-ne0, else-marks-i-ne0}

pub loop-i-init : goal.loop-i-init
loop-i-init c = emit-none _ _ c.requires.fitted _

pub put-requires : goal.put-requires
put-requires c =
    let pre = c.requires in
    let inv = c.loop-i.invariant in
    omega (arith, emit-length _ _ pre.fitted _ inv, emit-few _ _ pre.fitted _ inv, pre.room)

pub overflow_add-size : goal.overflow_add-size
overflow_add-size c =
    let pre = c.requires in
    omega (arith, emit-few _ _ pre.fitted _ c.loop-i.invariant, pre.fitted.few)

pub loop-i-preserved : goal.loop-i-preserved
loop-i-preserved c =
    let pre = c.requires in
    let marks = c.args.marks.now in
    elim c.if-marks-i-ne0.branch [
      | then-marks-i-ne0 w ↦
          emit-more _ _ pre.fitted _ c.loop-i.invariant (omega arith)
          (not-zero _ _ marks pre.marks _ (omega arith) w.if-marks-i-ne0.true)
          c.args.places.now pre.places w.key_at.result w.key_at.ensures (w.second-is ∙ w.put.ensures) w.size-is
      | else-marks-i-ne0 w ↦
          emit-other _ _ pre.fitted _ c.loop-i.invariant (omega arith)
          (is_zero _ _ marks pre.marks _ (omega arith) w.if-marks-i-ne0.false) w.second-is w.size-is
    ]
