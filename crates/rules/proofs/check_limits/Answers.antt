-- A word opens one bracket too many, or is passed; after the last word the count decides.
use Rattle.std.proofs.Common.{sym, ◌∙◌, true, false, arith}
use borrow.Author.Tests.{le-ltb}
use Rattle.rules.proofs.Passes.{passed_deep, passed_one, passed_limits}
use Rattle.rules.proofs.check_limits.Goals as goal
use Rattle.rules.proofs.check_limits.Goals.{then-is_counted, else-is_counted}

pub returns-then-depth-gt-BRACKETS : goal.returns-then-depth-gt-BRACKETS
returns-then-depth-gt-BRACKETS c =
    rw (passed_deep c.loop-w.invariant (omega arith) (omega (arith, c.open_after-depth.ensures)))

pub loop-w-preserved : goal.loop-w-preserved
loop-w-preserved c =
    let low = c.if-depth-gt-BRACKETS.false in
    elim c.if-is_counted.branch [
      | then-is_counted w ↦
          passed_one c.loop-w.invariant true (omega arith) c.open_after-depth.ensures low
          (sym c.is_counted.ensures ∙ w.if-is_counted.true) (omega arith)
      | else-is_counted w ↦
          passed_one c.loop-w.invariant false (omega arith) c.open_after-depth.ensures low
          (sym c.is_counted.ensures ∙ w.if-is_counted.false) (omega arith)
    ]

pub returns : goal.returns
returns c =
    rw (← (passed_limits c.loop-w.invariant (omega arith)), le-ltb _ _ c.if-n-gt-OPERATORS.false)
