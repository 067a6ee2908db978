-- Counted back from the height, the operand is in the stack or there is none.
use Rattle.std.proofs.Common.{ap, ◌∙◌}
use Rattle.lists.specs.Number.{number_at}
use Rattle.emitter.proofs.Entry.{operand_in, operand-out}
use Rattle.emitter.proofs.Stack.operand.Goals as goal

pub returns-then-back-self : goal.returns-then-back-self
returns-then-back-self c =
    operand_in c.self.inside.items c.self.inside.height c.args.back c.if-back-self.true
    ∙ ap (λ l. number_at l c.args.back) c.self.view_is

pub returns-else-back-self : goal.returns-else-back-self
returns-else-back-self c =
    operand-out c.self.inside.items c.self.inside.height c.args.back c.if-back-self.false
    ∙ ap (λ l. number_at l c.args.back) c.self.view_is
