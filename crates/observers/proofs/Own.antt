-- Two lists of calls that differ in their parameters alone, which are admitted in both: the same calls are refused, and
-- their ticks differ in the parameters alone. Assumes nothing.
use mathlib.Core.Bool.{true}
use mathlib.Core.List.{List, [], ◌∷◌, map}
use mathlib.Core.Path.{◌≡◌, refl, ap, fun_ext, ◌∙◌}
use Prim.Native.Nat.{ℕ, zero, suc}
use Rattle.traces.specs.declared.Tick.{Tick}
use Rattle.traces.specs.Trace.{Trace}
use Rattle.traces.specs.Parameters.{parameters_fit, with_parameters, run_with}
use Rattle.tables.specs.Table.{Checked}
use Rattle.flows.specs.Run.{Call, call_with, call_checked, admits}
use Rattle.flows.specs.Step.{Stepped}
use Rattle.flows.proofs.Expected.{admitted, expected}
use Rattle.agreement.specs.Agreement.{SameParameters, trace_of_ticks}
use Rattle.agreement.specs.Agreement.SameParameters.{none, more}
use Rattle.agreement.proofs.Calls.{same_at}
use Rattle.std.specs.Prelude.{Ok, Err}

module _ (cap velocities n : ℕ) where
  -- The ticks of calls with these parameters have them;
  pub own : (ps : List ℕ) (xs : List Call) → SameParameters ps (admitted cap velocities n (map (call_with ps) xs))
  unfolding admitted
  own ps [] = none
  own ps (x ∷ xs) = go (admits cap velocities n (call_with ps x)) refl (own ps xs)
    where
      go : (c : Checked) → admits cap velocities n (call_with ps x) ≡ c
          → SameParameters ps (admitted cap velocities n (map (call_with ps) xs))
          → SameParameters ps (admitted cap velocities n (call_with ps x ∷ map (call_with ps) xs))
      go (Ok tt) e rest = rw e (more refl rest)
      go (Err r) e rest = rw e rest

  pub own-trace : (ps : List ℕ) (xs : List Call) →
      let ks : List Tick = admitted cap velocities n (map (call_with ps) xs) in
      trace_of_ticks ps ks ≡ run_with ps (trace_of_ticks ps ks)
  own-trace ps xs =
      let trace : Trace = trace_of_ticks ps (admitted cap velocities n (map (call_with ps) xs)) in
      fun_ext (λ i. ap (λ (l : List ℕ). with_parameters l (trace i)) (same_at (own ps xs) i))

  module _ (ps qs : List ℕ) (fit : parameters_fit cap ps ≡ true) (fit' : parameters_fit cap qs ≡ true) where
    -- a call is refused with the one as with the other;
    admits-alike : (x : Call) → admits cap velocities n (call_with qs x) ≡ admits cap velocities n (call_with ps x)
    unfolding call_checked
    admits-alike x = rw (fit, fit')

    -- and so are the ticks the same but for their parameters,
    admitted-alike : (xs : List Call)
        → admitted cap velocities n (map (call_with qs) xs)
        ≡ map (with_parameters qs) (admitted cap velocities n (map (call_with ps) xs))
    unfolding admitted
    admitted-alike [] = refl
    admitted-alike (x ∷ xs) = go (admits cap velocities n (call_with ps x)) refl (admitted-alike xs)
      where
        Alike : List Call → Type 0
        Alike l =
            admitted cap velocities n (map (call_with qs) l)
            ≡ map (with_parameters qs) (admitted cap velocities n (map (call_with ps) l))

        go : (c : Checked) → admits cap velocities n (call_with ps x) ≡ c → Alike xs → Alike (x ∷ xs)
        go (Ok tt) e rest =
            rw (admits-alike x, e) (ap (λ (l : List Tick). with_parameters qs x.tick ∷ l) rest)
        go (Err r) e rest = rw (admits-alike x, e) rest

    -- and so is their trace.
    with-trace : (ks : List Tick) (i : ℕ)
        → trace_of_ticks qs (map (with_parameters qs) ks) i ≡ run_with qs (trace_of_ticks ps ks) i
    with-trace [] i = refl
    with-trace (k ∷ ks) zero = refl
    with-trace (k ∷ ks) (suc i) = with-trace ks i

    pub second-trace : (xs : List Call) →
        let ks : List Tick = admitted cap velocities n (map (call_with ps) xs) in
        trace_of_ticks qs (admitted cap velocities n (map (call_with qs) xs)) ≡ run_with qs (trace_of_ticks ps ks)
    second-trace xs =
        let ks : List Tick = admitted cap velocities n (map (call_with ps) xs) in
        ap (trace_of_ticks qs) (admitted-alike xs) ∙ fun_ext (with-trace ks)

    -- The answers, by the verdicts at the ticks.
    pub expected-alike : (v w : ℕ → ℕ) → ((i : ℕ) → v i ≡ w i) → (k : ℕ) (xs : List Call)
        → expected cap velocities n v k (map (call_with ps) xs) ≡ expected cap velocities n w k (map (call_with qs) xs)
    unfolding expected
    expected-alike v w h k [] = refl
    expected-alike v w h k (x ∷ xs) =
        go (admits cap velocities n (call_with ps x)) refl (λ i. expected-alike v w h i xs)
      where
        Same : ℕ → List Call → Type 0
        Same i l =
            expected cap velocities n v i (map (call_with ps) l) ≡ expected cap velocities n w i (map (call_with qs) l)

        go : (c : Checked) → admits cap velocities n (call_with ps x) ≡ c → ((i : ℕ) → Same i xs) → Same k (x ∷ xs)
        go (Ok tt) e rest = rw (admits-alike x, e, h k) (ap (λ (l : List Stepped). Ok (w k) ∷ l) (rest (suc k)))
        go (Err r) e rest = rw (admits-alike x, e) (ap (λ (l : List Stepped). Err r ∷ l) (rest k))
