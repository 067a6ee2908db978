-- Two tables that run as Lustre and say the same on every trace: on every list of calls of which the first refuses
-- none, both answer alike, the second also with values of its own. Assumes nothing.
use mathlib.Core.Path.{◌≡◌, refl, ◌∙◌, sym, subst}
use mathlib.Core.List.{List, [], ◌∷◌}
use Prim.Native.Nat.{ℕ, suc, ◌≤◌}
use native.Mathlib.Omega.{arith}
use lib.Dec.{leb}
use lib.ListN.{length}
use borrow.Author.Tests.{le-leb, leb-true}
use Rattle.traces.specs.declared.Tick.{Tick}
use Rattle.traces.specs.Trace.{Trace, trace_of, tick_of}
use Rattle.limits.specs.declared.Refusal.TheVariants.{ShortState}
use Rattle.tables.specs.Table.{Checked, passed, checked}
use Rattle.tables.proofs.Checks.{passed-one}
use Rattle.flows.specs.Flow.{answer_of}
use Rattle.flows.specs.Step.{step_checked, stepped_if, stepped}
use Rattle.flows.specs.Run.{Call, called, steps, from_fresh, answered, ticks, EachTick, call_checked, admits}
use Rattle.flows.specs.Lustre.{Solves, RunsAsLustre}
use Rattle.flows.proofs.Checks.{step-admitted}
use Rattle.flows.proofs.Lists.{each_map}
use Rattle.flows.proofs.Expected.{admitted, expected, decided-ticks, each-expected}
use Rattle.packing.specs.Laws.{NoneRefused, SameTicks}
use Rattle.std.specs.Prelude.{Ok, Err}

-- A step that is not refused: the table passes the check.
pub taken-passed : (cap velocities : ℕ) (t : List ℕ) (n : ℕ) (state : List ℕ) (x : Call) (xs : List Call)
    → NoneRefused (answered (steps cap velocities t n state (x ∷ xs))) → checked velocities t n ≡ passed
unfolding steps stepped
taken-passed cap velocities t n state x xs h = go (step_checked cap velocities t n state x.values x.tick) refl h
  where
    go : (c : Checked) → step_checked cap velocities t n state x.values x.tick ≡ c
        → NoneRefused ((stepped_if c cap t n state x.values x.tick).answer
        ∷ answered (steps cap velocities t n (called cap velocities t n state x).state xs))
        → checked velocities t n ≡ passed
    go (Ok tt) e h = (step-admitted cap velocities t n state x.values x.tick e).0
    go (Err r) e h = absurd h

-- Every call is admitted by n equations.
abbrev Admitted : ℕ → ℕ → ℕ → List Call → Type 0
Admitted cap velocities n [] = Unit {0}
Admitted cap velocities n (x ∷ xs) = (admits cap velocities n x ≡ passed) × Admitted cap velocities n xs

-- So it is where all answers are verdicts: a call that is not admitted has none.
answered-admitted : (cap velocities n : ℕ) (v : ℕ → ℕ) (xs : List Call) (k : ℕ)
    → NoneRefused (expected cap velocities n v k xs) → Admitted cap velocities n xs
unfolding expected
answered-admitted cap velocities n v [] k h = tt
answered-admitted cap velocities n v (x ∷ xs) k h =
    one (admits cap velocities n x) refl h (answered-admitted cap velocities n v xs (suc k))
  where
    one : (c : Checked) → admits cap velocities n x ≡ c → NoneRefused (expected cap velocities n v k (x ∷ xs))
        → (NoneRefused (expected cap velocities n v (suc k) xs) → Admitted cap velocities n xs)
        → Admitted cap velocities n (x ∷ xs)
    one (Ok tt) e g rest = (e, rest (rw e at g))
    one (Err r) e g rest = absurd (rw e at g)

-- What n equations admit, n' admit with the same ticks and values for n': the same answers if the verdicts are.
module _ (cap velocities n n' : ℕ) where
  admits-same : (x y : Call) → x.tick ≡ y.tick → n' ≤ length y.values → admits cap velocities n x ≡ passed
      → admits cap velocities n' y ≡ passed
  unfolding call_checked
  admits-same x y q l e =
      let p = passed-one (leb n (length x.values)) _ ShortState e in
      rw (le-leb n' (length y.values) l, ← q) p.1

  ticks-same : (xs ys : List Call) → SameTicks n' xs ys → Admitted cap velocities n xs
      → admitted cap velocities n' ys ≡ admitted cap velocities n xs
  unfolding admitted
  ticks-same [] [] s h = refl
  ticks-same [] (y ∷ ys) s h = absurd s
  ticks-same (x ∷ xs) [] s h = absurd s
  ticks-same (x ∷ xs) (y ∷ ys) s h =
      rw (h.0, admits-same x y s.0 s.1 h.0, s.0, ticks-same xs ys s.2 h.1)

  expected-same : (v v' : ℕ → ℕ) → ((k : ℕ) → v k ≡ v' k) → (xs ys : List Call) (k : ℕ) → SameTicks n' xs ys
      → Admitted cap velocities n xs → expected cap velocities n' v' k ys ≡ expected cap velocities n v k xs
  unfolding expected
  expected-same v v' same [] [] k s h = refl
  expected-same v v' same [] (y ∷ ys) k s h = absurd s
  expected-same v v' same (x ∷ xs) [] k s h = absurd s
  expected-same v v' same (x ∷ xs) (y ∷ ys) k s h =
      rw (h.0, admits-same x y s.0 s.1 h.0, same k, expected-same v v' same xs ys (suc k) s.2 h.1)

-- The trace of some ticks. Past the last of them, where no step looks, any tick does.
abbrev trace_for : List Tick → Trace
trace_for = trace_of (tick_of 0 0 0 [])

-- The flows that a table has on a trace solve its equations.
solved : {cap velocities : ℕ} {t : List ℕ} {n : ℕ} (L : RunsAsLustre cap velocities t n) (trace : Trace)
    → Solves cap t n trace (L.flow trace)
solved L trace i k l = (L.solves trace i k l).equation

-- The answers are what the flows of the admitted ticks say.
answers-lustre : (cap velocities : ℕ) (t : List ℕ) (n : ℕ) (L : RunsAsLustre cap velocities t n) (old : List ℕ)
    → n ≤ length old → (calls : List Call) → answered (from_fresh cap velocities t n old calls)
    ≡ expected cap velocities n (λ k. answer_of n (L.flow (trace_for (admitted cap velocities n calls)) k)) 0 calls
answers-lustre cap velocities t n L old room calls =
    let ss = from_fresh cap velocities t n old calls in
    let decides = L.decides old room calls in
    let ks : ticks ss ≡ admitted cap velocities n calls = decided-ticks cap velocities t n calls _ decides in
    let said : List Tick → ℕ → ℕ = λ l k. answer_of n (L.flow (trace_for l) k) in
    each-expected cap velocities n (said (admitted cap velocities n calls)) calls ss 0 decides
    (subst (λ (l : List Tick). EachTick (λ k s. s.left.answer ≡ Ok (said l k)) 0 ss) ks
    (each_map (λ k s h. h.answer)
    (L.leaves old room calls (tick_of 0 0 0 []) (L.flow (trace_for (ticks ss))) (solved L (trace_for (ticks ss))))))

-- Calls that n equations admit have values for no more equations, too.
admitted-ticks : (cap velocities n n' : ℕ) → n' ≤ n → (xs : List Call) → Admitted cap velocities n xs
    → SameTicks n' xs xs
unfolding call_checked
admitted-ticks cap velocities n n' less [] a = tt
admitted-ticks cap velocities n n' less (x ∷ xs) a =
    let l = leb-true n (length x.values) (passed-one (leb n (length x.values)) _ ShortState a.0).0 in
    (refl, omega arith, admitted-ticks cap velocities n n' less xs a.1)

-- Where the first table refuses none, all its calls are admitted.
all-admitted : (cap velocities : ℕ) (t : List ℕ) (n : ℕ) → RunsAsLustre cap velocities t n → (old : List ℕ)
    → n ≤ length old → (calls : List Call) → NoneRefused (answered (from_fresh cap velocities t n old calls))
    → Admitted cap velocities n calls
all-admitted cap velocities t n L old room calls h =
    answered-admitted cap velocities n _ calls 0
    (subst NoneRefused (answers-lustre cap velocities t n L old room calls) h)

pub same-ticks : (cap velocities : ℕ) (t : List ℕ) (n n' : ℕ) → n' ≤ n → RunsAsLustre cap velocities t n
    → (old : List ℕ) → n ≤ length old → (calls : List Call)
    → NoneRefused (answered (from_fresh cap velocities t n old calls)) → SameTicks n' calls calls
same-ticks cap velocities t n n' less L old room calls h =
    admitted-ticks cap velocities n n' less calls (all-admitted cap velocities t n L old room calls h)

-- Where the flows of both say the same at each tick of each trace, the answers are the same.
pub answers-same : (cap velocities : ℕ) (t t' : List ℕ) (n n' : ℕ) → RunsAsLustre cap velocities t n
    → RunsAsLustre cap velocities t' n'
    → ((trace : Trace) (f g : ℕ → ℕ → ℕ) → Solves cap t n trace f → Solves cap t' n' trace g
    → (k : ℕ) → answer_of n (f k) ≡ answer_of n' (g k))
    → (old old' : List ℕ) → n ≤ length old → n' ≤ length old' → (calls calls' : List Call)
    → SameTicks n' calls calls' → NoneRefused (answered (from_fresh cap velocities t n old calls))
    → answered (from_fresh cap velocities t' n' old' calls') ≡ answered (from_fresh cap velocities t n old calls)
answers-same cap velocities t t' n n' L L' same old old' room room' calls calls' ts verdicts =
    let given = answers-lustre cap velocities t n L old room calls in
    let all = all-admitted cap velocities t n L old room calls verdicts in
    let trace = trace_for (admitted cap velocities n calls) in
    answers-lustre cap velocities t' n' L' old' room' calls'
    ∙ rw (ticks-same cap velocities n n' calls calls' ts all)
    (expected-same cap velocities n n' _ _ (same trace _ _ (solved L trace) (solved L' trace)) calls calls' 0 ts all)
    ∙ sym given
