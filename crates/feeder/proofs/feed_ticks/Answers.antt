-- `feeder::feed_ticks` meets its contract: no line is run, or those of `run_ticks`. Assumes nothing.
use Rattle.std.proofs.Common.{rules, ◌≡◌, ◌∙◌, sym}
use Rattle.cards.specs.declared.Phase.TheVariants.{Ticks}
use Rattle.feeder.proofs.TickRuns.{no-refusal, admitted}
use Rattle.feeder.proofs.feed_ticks.Goals as goal

pub run_ticks-requires : goal.run_ticks-requires
run_ticks-requires c =
    let is : c.args.player.now.watch.stage.phase ≡ Ticks = search rules in
    let passed = sym c.step_checked-checked.ensures ∙ no-refusal _ c.if-is_err.ensures.value in
    (c.requires is, admitted _ _ _ is c.tick_of-now.ensures passed)

pub returns-clause-value : goal.returns-clause-value
returns-clause-value c =
    let is : c.args.player.now.watch.stage.phase ≡ Ticks = search rules in
    let passed = sym c.step_checked-checked.ensures ∙ no-refusal _ c.if-is_err.ensures.value in
    λ no. absurd (no (admitted _ _ _ is c.tick_of-now.ensures passed))
