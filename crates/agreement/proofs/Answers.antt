-- The answers of an observer, over every list of calls from the fresh state, are its formula's verdicts, where each
-- parameter that the formula names has one value at all ticks, and idle exactly before the first start, whatever the
-- parameters are. This joins what Formed (scheme) shows of the table's check, Verdicts of flows that satisfy their
-- equations, and the laws of runs of any table (flows). Over a number m of signals that is left open (scheme,
-- proofs/Parts.antt). Assumes nothing.
use mathlib.Core.Bool.{true, cond}
use mathlib.Core.List.{List, ◌++◌}
use mathlib.Core.Logic.Iff
use mathlib.Core.Logic.{◌↔◌}
use mathlib.Core.Path.{◌≡◌, sym, ap, ◌∙◌, subst}
use Prim.Native.Nat.{ℕ, ◌≤◌, ◌<◌}
use native.Mathlib.Omega.{arith}
use lib.ListN.{length}
use Rattle.traces.specs.declared.Tick.{Tick}
use Rattle.traces.specs.Trace.{Trace, trace_of, tick_of, idle_verdict}
use Rattle.formulas.specs.Formula.{Formula}
use Rattle.formulas.specs.Meaning.{verdict}
use Rattle.formulas.specs.Laws.{Starts}
use Rattle.formulas.specs.Tree.{leads}
use Rattle.formulas.specs.Bounds.{bounded}
use Rattle.formulas.specs.Names.{names_parameter}
use Rattle.formulas.specs.Raw.{raw}
use Rattle.formulas.proofs.Named.{Unchanging, Steady, parameters-below}
use Rattle.limits.specs.Limits.{equation_limit, literal_count, signal_count}
use Rattle.tables.specs.Table.{verdict_of, passed, checked}
use Rattle.flows.specs.Flow.{answer_of}
use Rattle.flows.specs.Step.{Stepped, AfterStep, after_tick}
use Rattle.flows.specs.Run.{Call, Taken, from_fresh, answered, ticks, EachTick}
use Rattle.flows.specs.Lustre.{Lustre}
use Rattle.flows.proofs.Runs.{flow_at, answer_at, lustre}
use Rattle.flows.proofs.Lists.{each_map, Ran, ran}
use Rattle.flows.proofs.Answers.{verdict-boolean}
use Rattle.flows.proofs.Expected.{admitted, expected, decided-ticks, each-expected}
use Rattle.scheme.specs.Emit.{named_by, numbers_of}
use Rattle.agreement.specs.Agreement.{SameParameters, trace_of_ticks, AsMeant, IdleUntilStart, Observes}
use Rattle.scheme.specs.Scheme.{◌⊕◌}
use Rattle.scheme.proofs.Parts.{whole_place, observer_over, whole-last, started-last, verdict-last}
use Rattle.scheme.proofs.Formed.{formed-over}
use Rattle.scheme.proofs.Local.{on, boolean-number}
use Rattle.agreement.proofs.Verdicts.{told, idle-over, verdict-over}
use Rattle.agreement.proofs.Calls.{Small, same_at, admitted-small}
use Rattle.std.specs.Prelude.{Ok}

-- Verdicts are the same if their numbers are.
same-verdict : (x y : ℕ) → (◌≡◌ {A = Stepped} (Ok x) (Ok y)) ↔ (x ≡ y)
same-verdict x y = (λ e. cc, λ e. ap Ok e)

module _ (cap velocities : ℕ) (low : cap ≤ literal_count) (m : ℕ) (few : m ≤ signal_count) (f : Formula)
    (led : leads (raw f) ≡ true) (bound : bounded cap velocities (raw f) ≡ true)
    (below : (j : ℕ) → named_by f j ≡ true → j < m) (junk : List ℕ)
    (short : length (observer_over m f) ≤ equation_limit) where
  abbrev t : List ℕ
  t = numbers_of (observer_over m f) ++ junk

  abbrev n : ℕ
  n = length (observer_over m f)

  -- The table passes its check.
  pub passes : checked velocities t n ≡ passed
  passes = formed-over cap velocities low m few f bound below junk short

  module _ (old : List ℕ) (room : n ≤ length old) (trace : Trace) where
    abbrev flow : ℕ → ℕ → ℕ
    flow = flow_at cap t n old trace

    run : Lustre cap t n trace flow
    run = lustre cap velocities t n old trace passes room

    -- The answer at a tick of a run, by the last two flows.
    answer-over : (e : ℕ) → answer_at cap t n old trace e ≡ told cap velocities trace flow m f junk run e
    unfolding answer_of
    answer-over e =
        rw (started-last m f, ← verdict-last m f)
        (ap (λ (x : ℕ). cond (on flow (whole_place m f ⊕ 1) e) x idle_verdict)
        (boolean-number cap trace flow t n run (verdict_of n) (omega (arith, whole-last m f))
        (verdict-boolean velocities t n passes) e))

    -- It is idle exactly before the first start,
    tick-idle : (k : ℕ) (s : Taken) → Ran cap velocities t n passes old room trace k s → IdleUntilStart trace k s
    unfolding after_tick flow_at
    tick-idle k s r =
        let tells : s.left.answer ≡ Ok (told cap velocities trace flow m f junk run k) =
        ap (λ (z : AfterStep). z.answer) r.left ∙ ap Ok (answer-over k) in
        subst (λ (a : Stepped). (a ≡ Ok idle_verdict) ↔ ((i : ℕ) → i ≤ k → ¬ Starts trace i)) (sym tells)
        (Iff.trans (same-verdict _ idle_verdict) (idle-over cap velocities trace flow m f junk run k))

    -- and the formula's verdict, where each parameter that the formula names has one value at all ticks. At the tick of
    -- an admitted call it is below the cap, and so it is at all ticks.
    module _ (same : Unchanging trace (names_parameter (raw f))) where
      steady : (k : ℕ) → Small cap (trace k).parameters → (j : ℕ) → names_parameter (raw f) j ≡ true
          → Steady cap trace j
      steady k small j e =
          record {
            same = same j e;
            small = λ i. rw (same j e i k) (small j (parameters-below cap velocities (raw f) j bound e));
          }

      tick-means : (k : ℕ) (s : Taken) → Ran cap velocities t n passes old room trace k s → AsMeant f trace k s
      unfolding after_tick flow_at
      tick-means k s r =
          let small = admitted-small cap velocities n s.call.values s.call.tick r.admitted in
          let here = subst (λ (x : Tick). Small cap x.parameters) (sym r.now) small in
          let means = verdict-over cap velocities trace flow m f junk run (steady k here) led bound below k in
          ap (λ (z : AfterStep). z.answer) r.left ∙ ap Ok (answer-over k ∙ means)

  -- So the step of each tick answers the verdict, over any list of calls. Past the last tick the trace is as d.
  pub answers-named : (old : List ℕ) → n ≤ length old → (calls : List Call) (d : Tick)
      → Unchanging (trace_of d (ticks (from_fresh cap velocities t n old calls))) (names_parameter (raw f))
      → EachTick (AsMeant f (trace_of d (ticks (from_fresh cap velocities t n old calls)))) 0
      (from_fresh cap velocities t n old calls)
  answers-named old room calls d same =
      each_map (tick-means old room _ same) (ran cap velocities t n passes old room calls d)

  -- Ticks with the same parameters are an instance: each named one has one value.
  pub answers-mean : (old : List ℕ) → n ≤ length old → (calls : List Call) (ps : List ℕ)
      → SameParameters ps (ticks (from_fresh cap velocities t n old calls))
      → EachTick (AsMeant f (trace_of_ticks ps (ticks (from_fresh cap velocities t n old calls)))) 0
      (from_fresh cap velocities t n old calls)
  answers-mean old room calls ps same =
      answers-named old room calls (tick_of 0 0 0 ps) (λ j e i k. rw (same_at same i, same_at same k))

  pub answers-idle : (old : List ℕ) → n ≤ length old → (calls : List Call) (d : Tick)
      → EachTick (IdleUntilStart (trace_of d (ticks (from_fresh cap velocities t n old calls)))) 0
      (from_fresh cap velocities t n old calls)
  answers-idle old room calls d = each_map (tick-idle old room _) (ran cap velocities t n passes old room calls d)

-- The answers as a list, of any table that observes a formula.
pub answers-are : {cap velocities : ℕ} {t : List ℕ} {n : ℕ} {f : Formula} → Observes cap velocities t n f
    → (old : List ℕ) → n ≤ length old → (calls : List Call) (ps : List ℕ)
    → SameParameters ps (admitted cap velocities n calls)
    → answered (from_fresh cap velocities t n old calls)
    ≡ expected cap velocities n (verdict (trace_of_ticks ps (admitted cap velocities n calls)) f) 0 calls
answers-are {cap} {velocities} {t} {n} {f} o old room calls ps same =
    let ss = from_fresh cap velocities t n old calls in
    let decides = o.decides old room calls in
    let ks : ticks ss ≡ admitted cap velocities n calls = decided-ticks cap velocities t n calls _ decides in
    each-expected cap velocities n (verdict (trace_of_ticks ps (admitted cap velocities n calls)) f) calls ss 0 decides
    (subst (λ (l : List Tick). EachTick (AsMeant f (trace_of_ticks ps l)) 0 ss) ks
    (o.agrees old room calls ps (subst (SameParameters ps) (sym ks) same)))
