-- `player::Player::play` meets its contract: one case for each thing that the line says. Assumes nothing.
use Rattle.std.proofs.Common.{inl, inr}
use Rattle.std.proofs.lemmas.Result.{err_from_is_err_and}
use Rattle.player.proofs.Playing.{refused-ends, said-ends, nothing-ends, rule-ends, tick-ends}
use Rattle.player.proofs.Player.play.Goals as goal

-- The line is refused.
pub returns-in_err-content-clause-line : goal.returns-in_err-content-clause-line
returns-in_err-content-clause-line c =
    let p = err_from_is_err_and c.from_residual.result c.from_residual.ensures.1 in
    rw (p.1, p.2) (refused-ends _ c.requires _ c.read_line.ensures c.in_err-content.was)

-- The edition, or nothing; the parameters; the number of ticks.
pub returns-in-Edition-clause-line : goal.returns-in-Edition-clause-line
returns-in-Edition-clause-line c =
    elim c.in-Edition.is [
      | inl e ↦ said-ends _ c.requires _ c.read_line.ensures c.in_ok-content.was c.stage_after-next.ensures e.1
      | inr e ↦ nothing-ends _ c.requires _ c.read_line.ensures c.in_ok-content.was c.stage_after-next.ensures e
    ]

pub returns-in-Parameters-clause-line : goal.returns-in-Parameters-clause-line
returns-in-Parameters-clause-line c =
    said-ends _ c.requires _ c.read_line.ensures c.in_ok-content.was c.stage_after-next.ensures c.in-Parameters.is

pub returns-in-Count-clause-line : goal.returns-in-Count-clause-line
returns-in-Count-clause-line c =
    said-ends _ c.requires _ c.read_line.ensures c.in_ok-content.was c.stage_after-next.ensures c.in-Count.is

-- The rule, refused and compiled.
pub returns-in_err-n-in-Rule-clause-line : goal.returns-in_err-n-in-Rule-clause-line
returns-in_err-n-in-Rule-clause-line c =
    let rule = c.from_residual-in_err-n-in-Rule in
    let r = err_from_is_err_and rule.result rule.ensures.1 in
    rw (r.1, r.2)
    (rule-ends _ c.requires _ c.read_line.ensures c.in_ok-content.was c.stage_after-next.ensures c.in-Rule.is
    c.rule_line.ensures c.in_err-n-in-Rule.was)

pub returns-in_ok-n-in-Rule-clause-line : goal.returns-in_ok-n-in-Rule-clause-line
returns-in_ok-n-in-Rule-clause-line c =
    rule-ends _ c.requires _ c.read_line.ensures c.in_ok-content.was c.stage_after-next.ensures c.in-Rule.is
    c.rule_line.ensures c.in_ok-n-in-Rule.was

-- A tick, whose step is refused, or has a verdict.
pub returns-in_err-verdict-in-Tick-clause-line : goal.returns-in_err-verdict-in-Tick-clause-line
returns-in_err-verdict-in-Tick-clause-line c =
    let tick = c.from_residual-in_err-verdict-in-Tick in
    let t = err_from_is_err_and tick.result tick.ensures.1 in
    rw (t.1, t.2)
    (tick-ends _ c.requires _ c.read_line.ensures c.in_ok-content.was c.stage_after-next.ensures c.in-Tick.is
    c.step.ensures.answer c.step.ensures.world c.in_err-verdict-in-Tick.was)

pub returns-in-Tick-clause-line : goal.returns-in-Tick-clause-line
returns-in-Tick-clause-line c =
    tick-ends _ c.requires _ c.read_line.ensures c.in_ok-content.was c.stage_after-next.ensures c.in-Tick.is
    c.step.ensures.answer c.step.ensures.world c.in_ok-verdict-in-Tick.was
