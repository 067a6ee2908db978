-- A name's value stands at the name's place.
use Rattle.std.proofs.Common.{ap, ◌∙◌}
use Rattle.emitter.specs.Machine.{value_list}
use Rattle.emitter.proofs.Entry.{named_is}
use Rattle.emitter.proofs.Values.named.Goals as goal

pub returns : goal.returns
returns c = named_is c.args.self.now _ c.args.name (c.self.invariant ∙ ap value_list c.self.view_is)
