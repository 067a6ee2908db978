-- Each number is what its call gave.
use native.Mathlib.Numerals.{add-one, add-two, add-three, add-four}
use Rattle.emitter.specs.Machine.{values_at}
use Rattle.emitter.proofs.values_at.Goals as goal

pub invariant_of-result : goal.invariant_of-result
invariant_of-result c =
    let o = c.args.m.next in
    cc (add-one o, add-two o, add-three o, add-four o)

pub returns : goal.returns
unfolding values_at
returns c = cc
