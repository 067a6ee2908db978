-- The last two are marked, and then the classes of the operands of each one that is found. What the marker holds in the
-- end is in the buffers that were lent.
use Rattle.std.proofs.Common.{◌∙◌, refl}
use native.Mathlib.Omega.{arith}
use borrow.Author.Rules.{rules}
use Rattle.packer.proofs.Reaching.{push-started, reach-begun, reach-room, reach-more, reach-all}
use Rattle.packer.proofs.mark.Goals as goal

pub push-requires-2 : goal.push-requires-2
push-requires-2 c =
    let pre = c.requires in
    push-started _ _ _ _ _ pre.0 pre.1 c.clear.ensures c.push.ensures.marked

pub loop-done-init : goal.loop-done-init
loop-done-init c =
    let pre = c.requires in
    ((refl, refl), reach-begun _ _ _ _ _ pre.0 pre.1 c.clear.ensures c.push.ensures.marked c.push-2.ensures.marked)

pub expand-requires : goal.expand-requires
expand-requires c = reach-room _ _ _ _ _ c.requires.0 _ _ c.loop-done.invariant.1 (omega arith)

pub loop-done-preserved : goal.loop-done-preserved
loop-done-preserved c =
    let same = c.expand.ensures.same_buffers in
    let loop = c.loop-done.invariant in (
      (same.0 ∙ loop.0.0, same.1 ∙ loop.0.1),
      reach-more _ _ _ _ _ c.requires.0 _ _ loop.1 (omega arith) c.expand.ensures.marked,
    )

pub returns : goal.returns
returns c =
    let end = c.loop-done.invariant.1 in
    let marks = reach-all _ _ _ _ _ c.requires.0 _ _ end (omega arith) in
    let found = c.clear-2.ensures ∙ end.sound.spare in
    (search (rules, marks), search (rules, found))
