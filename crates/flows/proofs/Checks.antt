-- Laws of the checks of a fresh state and of a step: what follows where all their tests pass. Assumes nothing.
use mathlib.Core.Path.{◌≡◌, sym}
use mathlib.Core.Bool.{true, ◌&&◌, cond}
use mathlib.Core.List.{List}
use Prim.Native.Nat.{ℕ, ◌≤◌}
use lib.Dec.{leb, ltb}
use lib.ListN.{length, drop}
use borrow.Author.Tests.{leb-true, le-leb}
use Rattle.traces.specs.declared.Tick.{Tick}
use Rattle.traces.specs.Parameters.{parameters_fit}
use Rattle.tables.specs.Table.{length_fits, equations_fit, Checked, passed, checked}
use Rattle.tables.proofs.Tests.{and-true}
use Rattle.tables.proofs.Checks.{Fitting, passed-one, passed-table, passed-both}
use Rattle.flows.specs.Step.{cells_fit, step_tests, step_checked}
use Rattle.limits.specs.declared.Refusal.TheVariants.{EquationCount, BadEquation, ShortState}
use Rattle.limits.specs.declared.Refusal.TheVariants.{ParameterTooHigh, CellOutOfRange, VelocityTooHigh}
use Rattle.std.specs.Prelude.{Err}

-- A step with room whose table passes its tests: the other tests decide.
pub decided : (cap velocities : ℕ) (t : List ℕ) (n : ℕ) (state values : List ℕ) (k : Tick) {z : Checked}
    → passed ≡ checked velocities t n → n ≤ length state → n ≤ length values
    → z ≡ cond (parameters_fit cap k.parameters) (cond (cells_fit cap t n state)
    (cond (ltb k.velocity velocities) passed (Err VelocityTooHigh)) (Err CellOutOfRange)) (Err ParameterTooHigh)
    → z ≡ step_checked cap velocities t n state values k
unfolding step_checked
decided cap velocities t n state values k e g h d =
    let p = passed-both velocities t n (sym e) in
    rw (p.0, p.1, le-leb n (length state) g, le-leb n (length values) h) d

module _ (cap velocities : ℕ) (t : List ℕ) (n : ℕ) (state values : List ℕ) (k : Tick)
    (e : step_checked cap velocities t n state values k ≡ passed) where
  pub step-passed : Fitting velocities t n × (n ≤ length state) × (n ≤ length values) × (cells_fit cap t n state ≡ true)
  unfolding step_checked
  step-passed =
      let p = passed-table velocities t n (drop 2 (step_tests cap velocities t n state values k)) e in
      let q = passed-one (leb n (length state) && leb n (length values)) _ ShortState p.1 in
      let l = and-true (leb n (length state)) _ q.0 in
      let m = passed-one (parameters_fit cap k.parameters) _ ParameterTooHigh q.1 in (
        p.0,
        leb-true n (length state) l.0,
        leb-true n (length values) l.1,
        (passed-one (cells_fit cap t n state) _ CellOutOfRange m.1).0,
      )

  -- What the table and the parameters alone decide.
  pub step-admitted : (checked velocities t n ≡ passed) × (parameters_fit cap k.parameters ≡ true)
  unfolding step_checked checked
  step-admitted =
      let p = passed-one (length_fits t n) _ EquationCount e in
      let q = passed-one (equations_fit velocities t n) _ BadEquation p.1 in
      let r = passed-one (leb n (length state) && leb n (length values)) _ ShortState q.1 in
      (rw (p.0, q.0), (passed-one (parameters_fit cap k.parameters) _ ParameterTooHigh r.1).0)
