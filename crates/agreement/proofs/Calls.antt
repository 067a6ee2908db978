-- Ticks with the same parameters: their trace has them at every tick, and once a call with them is admitted they are
-- below the cap. Assumes nothing.
use mathlib.Core.Bool.{Bool, true, false, cond}
use mathlib.Core.List.{List}
use mathlib.Core.Path.{◌≡◌, refl}
use Prim.Native.Nat.{ℕ, zero, suc, ◌<◌}
use lib.Dec.{leb, ltb}
use lib.ListN.{length, get_or}
use borrow.Author.Tests.{ltb-true}
use Rattle.traces.specs.declared.Tick.{Tick}
use Rattle.traces.specs.Parameters.{parameter_fits, parameters_fit}
use Rattle.limits.specs.Limits.{parameter_count}
use Rattle.flows.specs.Run.{call_checked}
use Rattle.tables.specs.Table.{passed}
use Rattle.tables.proofs.Tests.{all-at}
use Rattle.agreement.specs.Agreement.{SameParameters, trace_of_ticks}
use Rattle.agreement.specs.Agreement.SameParameters.{none, more}
use Rattle.std.specs.Prelude.{Err}
use Rattle.limits.specs.declared.Refusal.TheVariants.{ParameterTooHigh, ShortState, VelocityTooHigh}

-- The trace's parameters, at every tick.
pub same_at : {ps : List ℕ} {ks : List Tick} → SameParameters ps ks → (i : ℕ) → (trace_of_ticks ps ks i).parameters ≡ ps
same_at none i = refl
same_at (more e rest) zero = e
same_at (more e rest) (suc i) = same_at rest i

-- The eight parameters are below the cap.
abbrev pub Small : ℕ → List ℕ → Type 0
Small cap ps = (j : ℕ) → j < parameter_count → get_or ps j 0 < cap

-- They are if a call with them is admitted.
pub admitted-small : (cap velocities n : ℕ) (values : List ℕ) (k : Tick)
    → call_checked cap velocities n values k ≡ passed → Small cap k.parameters
unfolding call_checked parameter_fits
admitted-small cap velocities n values k e j h =
    ltb-true (get_or k.parameters j 0) cap
    (all-at (parameter_fits cap k.parameters) parameter_count
    (second (leb n (length values)) (parameters_fit cap k.parameters) (ltb k.velocity velocities) e) j h)
  where
    second : (a b c : Bool)
        → cond a (cond b (cond c passed (Err VelocityTooHigh)) (Err ParameterTooHigh)) (Err ShortState) ≡ passed
        → b ≡ true
    second true true c e = refl
    second true false c e = cc
    second false b c e = cc
