-- By the three tests of refusal 10, and then by whether the equations fit and whether the table closes.
use Rattle.std.proofs.Common.{refl, sym, ◌∙◌, true, false}
use native.Mathlib.Omega.{arith}
use Rattle.tables.proofs.Checks.{too_few, too_many, too_short, long-enough}
use Rattle.tables.proofs.check_table.Goals as goal
use Rattle.tables.proofs.check_table.Goals.{then-n-eq0-via-then-n-eq0, then-n-eq0-via-else-n-eq0+then-n-gt-EQUATIONS}
use Rattle.tables.proofs.check_table.Goals.{then-n-eq0-via-else-n-eq0+else-n-gt-EQUATIONS+then-table-n}
use Rattle.tables.proofs.check_table.Goals.{then-not-equations_fit-via-then-not-equations_fit}
use Rattle.tables.proofs.check_table.Goals.{then-not-equations_fit-via-else-not-equations_fit+then-not-closes}

pub returns-then-n-eq0 : goal.returns-then-n-eq0
returns-then-n-eq0 c =
    elim c.then-n-eq0.branch [
      | then-n-eq0-via-then-n-eq0 w ↦ too_few _ _ _ (omega arith)
      | then-n-eq0-via-else-n-eq0+then-n-gt-EQUATIONS w ↦ too_many _ _ _ (omega arith)
      | then-n-eq0-via-else-n-eq0+else-n-gt-EQUATIONS+then-table-n w ↦
          too_short _ _ _ (omega arith) (omega arith) (omega arith)
    ]

pub returns-then-not-equations_fit : goal.returns-then-not-equations_fit
returns-then-not-equations_fit c =
    let decided = long-enough c.args.velocities c.args.table.now c.args.n (omega arith) (omega arith) (omega arith) in
    elim c.then-not-equations_fit.branch [
      | then-not-equations_fit-via-then-not-equations_fit w ↦
          sym (decided false _ (sym c.equations_fit.ensures ∙ w.if-not-equations_fit.true) refl)
      | then-not-equations_fit-via-else-not-equations_fit+then-not-closes w ↦
          sym (decided true false (sym c.equations_fit.ensures ∙ w.if-not-equations_fit.false)
          (sym w.closes.ensures ∙ w.if-not-closes.true))
    ]

pub returns : goal.returns
returns c =
    sym (long-enough _ _ _ (omega arith) (omega arith) (omega arith) true true
    (sym c.equations_fit.ensures ∙ c.if-not-equations_fit.false)
    (sym c.closes.ensures ∙ c.if-not-closes.false))
