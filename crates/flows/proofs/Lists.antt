-- Lists of calls of a well-formed table from its fresh state: each call by itself decides whether it is refused
-- (SPEC 6.5), and the others are the ticks of a run, so that each leaves the flows that Lustre gives (SPEC 6.4).
-- Assumes nothing.
use mathlib.Core.Path.{◌≡◌, refl, ◌∙◌, sym, ap, ap₂, subst}
use mathlib.Core.Bool.{true}
use mathlib.Core.List.{List, [], ◌∷◌, ◌++◌}
use Prim.Native.Nat.{ℕ, zero, suc, ◌+◌, ◌≤◌, ◌<◌}
use native.Mathlib.Omega.{arith}
use native.Mathlib.Nat.{add-zero, zero-add}
use lib.ListN.{length, get_or, drop, replicate, length-append, length-replicate}
use borrow.Author.Tests.{le-leb, lt-ltb}
use Rattle.traces.specs.declared.Tick.{Tick}
use Rattle.traces.specs.Trace.{Trace, trace_of, tick_of}
use Rattle.traces.specs.Parameters.{parameter_fits}
use Rattle.lists.specs.Number.{number_at}
use Rattle.tables.specs.Table.{Checked, passed, checked}
use Rattle.flows.specs.Flow.{flows, operand_at, fresh_state, next_state}
use Rattle.flows.specs.Step.{cells_fit, fresh_checked, step_checked}
use Rattle.flows.specs.Step.{AfterFresh, after_fresh, freshened, AfterStep, after_tick, stepped_if, stepped}
use Rattle.flows.specs.Run.{Call, called, Taken, steps, from_fresh, tick_if, ticks, EachTick}
use Rattle.flows.specs.Run.{call_checked, admits, refusal_in, CallsDecide}
use Rattle.flows.specs.Run.EachTick.{none, tick as ticked, refused as skipped}
use Rattle.flows.specs.Lustre.{Solves, firsts, Leaves, RunsAsLustre}
use Rattle.flows.proofs.Buffers.{length-flows, flows-at, length-memories}
use Rattle.tables.proofs.Checks.{Fitting, checked-fitting, passed-both}
use Rattle.flows.proofs.Checks.{step-passed, step-admitted}
use Rattle.flows.proofs.Ranges.{fresh-fits, next_fits}
use Rattle.flows.proofs.Runs.{state_at, flow_at, answer-same, state-room, state-fits, lustre, flows-same}
use Rattle.std.specs.Prelude.{Ok, Err}

-- Where a table passes its check and there is room, the fresh state is made.
pub made : (velocities : ℕ) (t : List ℕ) (n : ℕ) (old : List ℕ) → checked velocities t n ≡ passed → n ≤ length old
    → freshened velocities t n old ≡ after_fresh passed (fresh_state t n old)
unfolding freshened fresh_checked
made velocities t n old passes room =
    let both = passed-both velocities t n passes in
    rw (both.0, both.1, le-leb n (length old) room)

-- What holds of each tick gives what follows from it.
pub each_map : {P Q : ℕ → Taken → Type 0} → ((k : ℕ) (s : Taken) → P k s → Q k s) → {k : ℕ} {ss : List Taken}
    → EachTick P k ss → EachTick Q k ss
each_map f none = none
each_map f (ticked e p rest) = ticked e (f _ _ p) (each_map f rest)
each_map f (skipped e rest) = skipped e (each_map f rest)

-- A trace that has these ticks from the number k on.
abbrev pub Follows : Trace → ℕ → List Tick → Type 0
Follows trace k [] = Unit {0}
Follows trace k (x ∷ xs) = (trace k ≡ x) × Follows trace (suc k) xs

follows : (trace : Trace) (d : Tick) (xs : List Tick) (k : ℕ) → ((j : ℕ) → trace (k + j) ≡ get_or xs j d)
    → Follows trace k xs
follows trace d [] k h = tt
follows trace d (x ∷ xs) k h = (
  ap trace (sym (add-zero k)) ∙ h 0,
  follows trace d xs (suc k) (λ j. let z : suc k + j ≡ k + suc j = omega arith in ap trace z ∙ h (suc j)),
)

pub follows_itself : (d : Tick) (xs : List Tick) → Follows (trace_of d xs) 0 xs
follows_itself d xs = follows (trace_of d xs) d xs 0 (λ j. ap (trace_of d xs) (zero-add j))

module _ (cap velocities : ℕ) (t : List ℕ) (n : ℕ) (passes : checked velocities t n ≡ passed) where
  -- Where the table passes its tests and the cells are in range, the call alone decides whether the step is refused.
  pub call-decides : (state values : List ℕ) (k : Tick) → n ≤ length state → cells_fit cap t n state ≡ true
      → step_checked cap velocities t n state values k ≡ call_checked cap velocities n values k
  unfolding step_checked call_checked
  call-decides state values k room fit =
      let p = passed-both velocities t n passes in
      rw (p.0, p.1, le-leb n (length state) room, fit)

  -- The state that a call leaves has room and is in range again,
  module _ (state : List ℕ) (x : Call) (room : n ≤ length state) (fit : cells_fit cap t n state ≡ true) where
    stays : (c : Checked) → (n ≤ length (stepped_if c cap t n state x.values x.tick).state)
        × (cells_fit cap t n (stepped_if c cap t n state x.values x.tick).state ≡ true)
    unfolding after_tick
    stays (Ok tt) =
        let fs = flows cap t x.tick state n in (
          rw (length-memories t (operand_at t fs) n state) room,
          next_fits cap velocities t n (checked-fitting velocities t n passes).equations x.tick state room fit,
        )
    stays (Err r) = (room, fit)

  -- so the calls of a list decide by themselves which are refused.
  refusal-if : (c : Checked) (state : List ℕ) (x : Call)
      → refusal_in (stepped_if c cap t n state x.values x.tick).answer ≡ c
  unfolding after_tick
  refusal-if (Ok tt) state x = refl
  refusal-if (Err r) state x = refl

  decided : (xs : List Call) (state : List ℕ) → n ≤ length state → cells_fit cap t n state ≡ true
      → CallsDecide cap velocities n xs (steps cap velocities t n state xs)
  unfolding steps stepped
  decided [] state room fit = refl
  decided (x ∷ xs) state room fit =
      let c = step_checked cap velocities t n state x.values x.tick in
      let next = stays state x room fit c in
      ap₂ (λ (y : Checked) (l : List Checked). y ∷ l)
      (refusal-if c state x ∙ call-decides state x.values x.tick room fit)
      (decided xs _ next.0 next.1)

  module _ (old : List ℕ) (room : n ≤ length old) where
    -- So it is at every step of a run.
    run-decides : (trace : Trace) (k : ℕ) (values : List ℕ) (tick : Tick)
        → step_checked cap velocities t n (state_at cap t n old trace k) values tick
        ≡ call_checked cap velocities n values tick
    run-decides trace k values tick =
        call-decides (state_at cap t n old trace k) values tick (state-room cap t n old trace room k)
        (state-fits cap velocities t n old trace room (checked-fitting velocities t n passes).equations k)

    -- The tick numbered k of a list of calls, on a run of the trace.
    pub record Ran (trace : Trace) (k : ℕ) (s : Taken) : Type 0 where
      pub admitted : admits cap velocities n s.call ≡ passed
      pub now : trace k ≡ s.call.tick
      pub left : s.left ≡ after_tick cap t n (state_at cap t n old trace k) s.call.values (trace k)

    module _ (trace : Trace) where
      -- A call at the tick numbered k: where it is not refused, it is that tick, and the run goes on after it.
      one-call : (k : ℕ) (x : Call) (xs : List Call) (c : Checked) → admits cap velocities n x ≡ c → (y : AfterStep)
          → y ≡ stepped_if c cap t n (state_at cap t n old trace k) x.values x.tick
          → Follows trace k (tick_if y.answer x.tick (ticks (steps cap velocities t n y.state xs)))
          → ((j : ℕ) → Follows trace j (ticks (steps cap velocities t n (state_at cap t n old trace j) xs))
          → EachTick (Ran trace) j (steps cap velocities t n (state_at cap t n old trace j) xs))
          → EachTick (Ran trace) k (record { call = x; left = y } ∷ steps cap velocities t n y.state xs)
      unfolding after_tick state_at
      one-call k x xs (Ok tt) a y e f rest =
          let state = state_at cap t n old trace k in
          let after = after_tick cap t n state x.values in
          let both : (trace k ≡ x.tick)
          × Follows trace (suc k) (ticks (steps cap velocities t n (after x.tick).state xs)) =
          subst (λ (z : AfterStep). Follows trace k (tick_if z.answer x.tick
          (ticks (steps cap velocities t n z.state xs)))) e f in
          let next : after (trace k) ≡ after x.tick = ap after both.0 in
          let here : Ran trace k (record { call = x; left = y }) =
          record { admitted = a; now = both.0; left = e ∙ sym next } in
          ticked (ap (λ (z : AfterStep). z.answer) e) here
          (subst (λ (z : AfterStep). EachTick (Ran trace) (suc k) (steps cap velocities t n z.state xs))
          (next ∙ sym e)
          (rest (suc k)
          (subst (λ (z : AfterStep). Follows trace (suc k) (ticks (steps cap velocities t n z.state xs))) (sym next)
          both.1)))
      one-call k x xs (Err r) a y e f rest =
          let state = state_at cap t n old trace k in
          let same : ticks (steps cap velocities t n state xs)
          ≡ tick_if y.answer x.tick (ticks (steps cap velocities t n y.state xs)) =
          sym
          (ap (λ (z : AfterStep). tick_if z.answer x.tick (ticks (steps cap velocities t n z.state xs))) e) in
          skipped (ap (λ (z : AfterStep). z.answer) e)
          (subst (λ (z : AfterStep). EachTick (Ran trace) k (steps cap velocities t n z.state xs)) (sym e)
          (rest k (subst (Follows trace k) (sym same) f)))

      ran-from : (xs : List Call) (k : ℕ)
          → Follows trace k (ticks (steps cap velocities t n (state_at cap t n old trace k) xs))
          → EachTick (Ran trace) k (steps cap velocities t n (state_at cap t n old trace k) xs)
      unfolding steps stepped
      ran-from [] k f = none
      ran-from (x ∷ xs) k f =
          let state = state_at cap t n old trace k in
          let decides = run-decides trace k x.values x.tick in
          one-call k x xs (admits cap velocities n x) refl (called cap velocities t n state x)
          (ap (λ (c : Checked). stepped_if c cap t n state x.values x.tick) decides) f (λ j g. ran-from xs j g)

    -- The steps of a list of calls are the ticks of a run, on the trace of these ticks.
    pub ran : (calls : List Call) (d : Tick)
        → EachTick (Ran (trace_of d (ticks (from_fresh cap velocities t n old calls)))) 0
        (from_fresh cap velocities t n old calls)
    unfolding state_at
    ran calls d =
        let state = fresh_state t n old in
        let ks = ticks (steps cap velocities t n state calls) in
        subst (λ (z : AfterFresh). EachTick (Ran (trace_of d (ticks (steps cap velocities t n z.state calls)))) 0
        (steps cap velocities t n z.state calls)) (sym (made velocities t n old passes room))
        (ran-from (trace_of d ks) calls 0 (follows_itself d ks))

    pub calls-decide : (calls : List Call) → CallsDecide cap velocities n calls
        (from_fresh cap velocities t n old calls)
    unfolding state_at
    calls-decide calls =
        let trace : Trace = λ k. tick_of 0 0 0 [] in
        subst (λ (z : AfterFresh). CallsDecide cap velocities n calls (steps cap velocities t n z.state calls))
        (sym (made velocities t n old passes room))
        (decided calls (fresh_state t n old) (state-room cap t n old trace room 0)
        (fresh-fits cap velocities t n (checked-fitting velocities t n passes).equations old room))

-- The flows of a tick as a list.
module _ (cap : ℕ) (t : List ℕ) (k : Tick) (state : List ℕ) (n : ℕ) (f : ℕ → ℕ)
    (same : (i : ℕ) → i < n → number_at (flows cap t k state n) i ≡ f i) where
  some-firsts : (m : ℕ) → m ≤ n → flows cap t k state m ≡ firsts f m
  unfolding flows firsts
  some-firsts zero l = refl
  some-firsts (suc m) l =
      ap₂ (λ (a : List ℕ) (x : ℕ). a ++ (x ∷ [])) (some-firsts m (omega arith))
      (sym (flows-at cap t k state n m l) ∙ same m l)

  flows-firsts : flows cap t k state n ≡ firsts f n
  flows-firsts = some-firsts n (omega arith)

-- ---- SPEC 12.2, demand 2

module _ (cap velocities : ℕ) (t : List ℕ) (n : ℕ) (passes : checked velocities t n ≡ passed) where
  fits : Fitting velocities t n
  fits = checked-fitting velocities t n passes

  -- Cells for a run that nobody looks at.
  abbrev noughts : List ℕ
  noughts = replicate n 0

  module _ (old : List ℕ) (room : n ≤ length old) (trace : Trace) (f : ℕ → ℕ → ℕ) (F : Solves cap t n trace f) where
    tick-leaves : (k : ℕ) (s : Taken) → Ran cap velocities t n passes old room trace k s → Leaves n f k s
    unfolding after_tick flow_at
    tick-leaves k s r =
        let state = state_at cap t n old trace k in
        let fs = flows cap t (trace k) state n in
        let same : (i : ℕ) → i < n → number_at fs i ≡ f k i =
        λ i l. flows-same cap velocities t n trace fits.equations (flow_at cap t n old trace) f
        (λ j m h. (lustre cap velocities t n old trace passes room j m h).equation) F k i l in
        record {
          values =
              ap (λ (z : AfterStep). z.values) r.left
              ∙ ap (λ (l : List ℕ). l ++ drop n s.call.values)
              (flows-firsts cap t (trace k) state n (f k) same);
          answer =
              ap (λ (z : AfterStep). z.answer) r.left
              ∙ ap Ok (answer-same n (number_at fs) (f k) fits.closed same);
        }

  pub runs-as-lustre : RunsAsLustre cap velocities t n
  runs-as-lustre =
      record {
        flow = flow_at cap t n noughts;
        solves = λ trace. lustre cap velocities t n noughts trace passes (omega (arith, length-replicate {A = ℕ} n 0));
        one = λ trace f g F G. flows-same cap velocities t n trace fits.equations f g F G;
        leaves =
            λ old room calls d f F. each_map (tick-leaves old room _ f F)
            (ran cap velocities t n passes old room calls d);
        decides = λ old room calls. calls-decide cap velocities t n passes old room calls;
      }

-- A step that is not refused,
module _ (cap velocities : ℕ) (t : List ℕ) (n : ℕ) (c v : List ℕ) (k : Tick)
    (e : step_checked cap velocities t n c v k ≡ passed) where
  pub step-ticks : stepped cap velocities t n c v k ≡ after_tick cap t n c v k
  unfolding stepped
  step-ticks = rw e

  -- and after it any further step with the same parameters, and with one of the velocities, is not refused.
  admitted-on : (k' : Tick) → k'.parameters ≡ k.parameters → k'.velocity < velocities → (v' : List ℕ)
      → n ≤ length v' → call_checked cap velocities n v' k' ≡ passed
  unfolding call_checked parameter_fits
  admitted-on k' q low v' room =
      rw (le-leb n (length v') room, q, (step-admitted cap velocities t n c v k e).1, lt-ltb _ velocities low)

  tick-on : (k' : Tick) → k'.parameters ≡ k.parameters → k'.velocity < velocities
      → step_checked cap velocities t n (after_tick cap t n c v k).state (after_tick cap t n c v k).values k' ≡ passed
  unfolding after_tick
  tick-on k' q low =
      let p = step-passed cap velocities t n c v k e in
      let fs = flows cap t k c n in
      call-decides cap velocities t n (step-admitted cap velocities t n c v k e).0 (next_state t fs n c)
      (fs ++ drop n v) k' (rw (length-memories t (operand_at t fs) n c) p.1)
      (next_fits cap velocities t n p.0.equations k c p.1 p.3)
      ∙ admitted-on k' q low (fs ++ drop n v)
      (omega (arith, length-append fs (drop n v), length-flows cap t k c n))

  pub step-on : (k' : Tick) → k'.parameters ≡ k.parameters → k'.velocity < velocities → (
      let after = stepped cap velocities t n c v k in
      step_checked cap velocities t n after.state after.values k' ≡ passed)
  step-on k' q low = rw step-ticks (tick-on k' q low)
