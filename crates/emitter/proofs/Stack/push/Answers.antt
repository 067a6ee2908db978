-- There is room for one operand more, and it is stored at the lowered height.
use Rattle.std.proofs.Common.{ap, ◌∙◌, ◌∷◌, ◌<◌, arith, length, drop}
use Rattle.emitter.proofs.Entry.{stacked-length, stacked-next}
use Rattle.emitter.proofs.Stack.push.Goals as goal

pub bounds-self-inside-low : goal.bounds-self-inside-low
bounds-self-inside-low c =
    omega (arith, stacked-length c.self.inside.items c.self.inside.height, ap length c.self.view_is)

pub invariant_of-self : goal.invariant_of-self
invariant_of-self c =
    omega (arith, stacked-length c.self.inside.items c.self.inside.height, ap length c.self.view_is)

pub returns : goal.returns
returns c =
    let n = c.self.inside.height in
    let room : n < length c.self.inside.items =
    omega (arith, stacked-length c.self.inside.items n, ap length c.self.view_is) in
    rw c.saturating_sub-low.ensures
    (stacked-next c.self.inside.items n c.args.takes c.args.v room
    ∙ ap (λ l. c.args.v ∷ drop c.args.takes l) c.self.view_is)
