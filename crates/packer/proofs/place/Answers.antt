-- The class of equation i still stands there, and its place is known.
use native.Mathlib.Omega.{arith}
use Rattle.std.proofs.Common.{ap, ◌+◌}
use Rattle.lists.specs.Number.{number_at}
use Rattle.packer.proofs.Marks.{mark-counts}
use Rattle.packer.proofs.Places.{place_none, place-least, place-few, place-more}
use Rattle.packer.proofs.place.Goals as goal

pub loop-i-init : goal.loop-i-init
loop-i-init c = place_none _ _ c.requires.fitted _ c.requires.names c.requires.named

pub place_of-requires : goal.place_of-requires
place_of-requires c =
    let pre = c.requires in
    omega (arith, place-least _ _ pre.fitted _ pre.names pre.named c.loop-i.invariant (omega arith), pre.named)

pub overflow_add-size : goal.overflow_add-size
overflow_add-size c =
    let pre = c.requires in
    let one = mark-counts (number_at c.args.marks.now c.loop-i.i) c.from-size.ensures in
    omega (arith, one.1, place-few _ _ pre.fitted _ pre.names pre.named c.loop-i.invariant, pre.fitted.few)

pub loop-i-preserved : goal.loop-i-preserved
loop-i-preserved c =
    let pre = c.requires in
    let one = mark-counts (number_at c.args.marks.now c.loop-i.i) c.from-size.ensures in
    place-more _ _ pre.fitted _ pre.names pre.named c.loop-i.invariant (omega arith)
    c.args.marks.now pre.marks c.place_of.ensures (ap (λ x. c.loop-i.size + x) one.0)
