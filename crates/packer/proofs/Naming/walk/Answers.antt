-- The equation before the place `at` has the key, or the walk goes on before it.
use Rattle.std.proofs.Common.{◌≡◌, sym, ◌∙◌, suc, ◌-◌}
use native.Mathlib.Omega.{arith}
use Rattle.packer.proofs.Buckets.{walk_more, walk-found, walk_end}
use Rattle.packer.proofs.Naming.walk.Goals as goal

pub returns-then-has_key : goal.returns-then-has_key
returns-then-has_key c =
    let pre = c.requires in
    let place : c.loop-at.at ≡ suc (c.loop-at.at - 1) = omega arith in
    walk-found pre.quick pre.chain place c.loop-at.invariant
    (sym (c.has_key.ensures ∙ rw pre.key) ∙ c.if-has_key.true)

pub loop-at-preserved : goal.loop-at-preserved
loop-at-preserved c =
    let pre = c.requires in
    let place : c.loop-at.at ≡ suc (c.loop-at.at - 1) = omega arith in
    walk_more pre.quick pre.chain place c.loop-at.invariant
    (sym (c.has_key.ensures ∙ rw pre.key) ∙ c.if-has_key.false)

pub returns : goal.returns
returns c =
    let pre = c.requires in
    walk_end pre.quick pre.chain (omega arith) c.loop-at.invariant
