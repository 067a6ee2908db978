-- What a step can answer. Assumes nothing.
use mathlib.Core.Path.{◌≡◌, refl, subst}
use mathlib.Core.Bool.{Bool, true, false, cond, false≢true}
use mathlib.Core.List.{List}
use Prim.Native.Nat.{ℕ, ◌≤◌, ◌<◌}
use native.Mathlib.Omega.{arith}
use lib.Dec.{leb}
use borrow.Author.Tests.{ltb-true}
use Rattle.traces.specs.Trace.{nonzero, idle_verdict}
use Rattle.traces.specs.declared.Tick.{Tick}
use Rattle.lists.specs.Number.{number_at}
use Rattle.limits.specs.Limits.{truth_count}
use Rattle.tables.specs.Table.{all, equation_fits, kind_at, sort_of, same_sort, equations_fit, Checked, passed, checked}
use Rattle.tables.specs.Table.{closing_count, started_of, verdict_of, boolean_at, closes}
use Rattle.tables.specs.declared.Sort.{Sort}
use Rattle.tables.specs.declared.Sort.TheVariants.{Boolean, Count}
use Rattle.tables.proofs.Tests.{and-true}
use Rattle.tables.proofs.Checks.{passed-both}
use Rattle.flows.specs.Flow.{flows, answer_of, in_range}
use Rattle.flows.specs.Step.{after_tick, stepped_if, step_checked, stepped}
use Rattle.flows.proofs.Checks.{step-passed, step-admitted}
use Rattle.flows.proofs.Ranges.{flows-range}
use Rattle.std.specs.Prelude.{Ok, Err}

-- The verdict's flow of a table that passes its check is boolean.
pub verdict-boolean : (velocities : ℕ) (t : List ℕ) (n : ℕ) → checked velocities t n ≡ passed
    → boolean_at t (verdict_of n) ≡ true
unfolding equations_fit closes
verdict-boolean velocities t n e =
    let last = (and-true (all (equation_fits velocities t n) n) _ (passed-both velocities t n e).1).1 in
    (and-true (boolean_at t (started_of n)) _ (and-true (leb closing_count n) _ last).1).1

-- A boolean is 0 or 1,
pub boolean-low : (cap : ℕ) (s : Sort) (x : ℕ) → same_sort s Boolean ≡ true → in_range cap s x ≡ true → x < truth_count
unfolding same_sort in_range
boolean-low cap Boolean x e r = ltb-true x truth_count r
boolean-low cap Count x e r = absurd (false≢true e)

-- so flows whose last one is answer no more than idle.
answer-low : (n : ℕ) (flow : ℕ → ℕ) → flow (verdict_of n) < truth_count → answer_of n flow ≤ idle_verdict
unfolding answer_of
answer-low n flow low = go (nonzero (flow (started_of n)))
  where
    go : (b : Bool) → cond b (flow (verdict_of n)) idle_verdict ≤ idle_verdict
    go true = omega arith
    go false = omega arith

-- SPEC 8.5: a step that is not refused, of whatever table, answers 0, 1 or 2.
pub answers-low : (cap velocities : ℕ) (t : List ℕ) (n : ℕ) (state values : List ℕ) (k : Tick) (v : ℕ)
    → (stepped cap velocities t n state values k).answer ≡ Ok v → v ≤ idle_verdict
unfolding stepped after_tick
answers-low cap velocities t n state values k v e = go (step_checked cap velocities t n state values k) refl e
  where
    go : (c : Checked) → step_checked cap velocities t n state values k ≡ c
        → (stepped_if c cap t n state values k).answer ≡ Ok v → v ≤ idle_verdict
    go (Ok tt) passes answers =
        let p = step-passed cap velocities t n state values k passes in
        let flow = number_at (flows cap t k state n) in
        let range =
        flows-range cap velocities t n p.0.equations k state p.3 (verdict_of n) (omega (arith, p.0.closed)) in
        let boolean = verdict-boolean velocities t n (step-admitted cap velocities t n state values k passes).0 in
        let is : answer_of n flow ≡ v = cc in
        subst (λ (x : ℕ). x ≤ idle_verdict) is
        (answer-low n flow (boolean-low cap (sort_of (kind_at t (verdict_of n))) (flow (verdict_of n)) boolean range))
    go (Err r) failed answers = absurd (no-verdict answers)
      where
        no-verdict : Err r ≡ Ok v → ⊥
        no-verdict q = let z : ◌≡◌ {A = ℕ} 0 1 = cc in omega arith
