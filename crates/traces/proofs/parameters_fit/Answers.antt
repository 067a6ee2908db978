-- `all` answers the test of the list's elements (`all_from_yields_List`), which is that of the eight parameters.
use Rattle.std.proofs.Common.{rules, ltb, sym, ap, ◌∙◌}
use Rattle.std.proofs.lemmas.Iterator.{YieldsList-from_slice}
use Rattle.std.proofs.lemmas.Iterator.Search.{all_from_yields_List}
use Rattle.lists.specs.All.{all}
use Rattle.lists.proofs.All.{all-listed}
use Rattle.traces.specs.Parameters.{parameter_fits}
use Rattle.traces.proofs.parameters_fit.Goals as goal

pub returns : goal.returns
unfolding parameter_fits
returns c =
    let ps = c.args.parameters.now in
    all_from_yields_List (λ p. ltb p c.args.limit) _ _ c.all.result c.all.ensures.ran
    (YieldsList-from_slice _ c.iter.ensures.rest)
    (λ x b q k. search rules)
    ∙ sym (all-listed (λ p. ltb p c.args.limit) ps 0)
    ∙ ap (all (parameter_fits c.args.limit ps)) c.told-parameters
