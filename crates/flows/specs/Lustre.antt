-- What it is for flows to satisfy the equations of a table, as Lustre reads them (SPEC 6.3), and demand 2 of a run
-- (SPEC 12.2): what its steps leave are these flows. Definitions only; the theorem is `runs-as-lustre` in
-- proofs/Lists.antt.
use Rattle.std.specs.Prelude.{true, List, [], ◌∷◌, ◌++◌, ◌≡◌, ℕ, zero, suc, ◌≤◌, ◌<◌, length, drop, Ok}
use Rattle.traces.specs.declared.Tick.{Tick}
use Rattle.traces.specs.Trace.{Trace, trace_of}
use Rattle.tables.specs.Table.{equation_at, kind_at, sort_of}
use Rattle.flows.specs.Flow.{value_of, answer_of, initial_at, in_range}
use Rattle.flows.specs.Run.{Call, Taken, from_fresh, ticks, EachTick, CallsDecide}

-- SPEC 6.3: Lustre's `x -> pre(y)`, x at the first tick, then y of the tick before.
abbrev pub arrow_pre : ℕ → (ℕ → ℕ) → ℕ → ℕ
arrow_pre x y zero = x
arrow_pre x y (suc k) = y k

-- SPEC 5.3, kinds 6 and 7: what the memory of equation i gives at tick k.
abbrev pub remembered : List ℕ → (ℕ → ℕ → ℕ) → ℕ → ℕ → ℕ
remembered t flow i k = arrow_pre (initial_at t i) (λ j. flow j (equation_at t i).a) k

-- SPEC 6.3: flow i, `flow k i` at tick k, satisfies its own equation at that tick, with its operands at the same tick.
abbrev pub Equated : ℕ → List ℕ → Trace → (ℕ → ℕ → ℕ) → ℕ → ℕ → Type 0
Equated cap t trace flow i k =
    flow k i ≡ value_of cap (trace k) (flow k) (remembered t flow i k) (kind_at t i) (equation_at t i)

-- Each of the n flows does, at every tick.
abbrev pub Solves : ℕ → List ℕ → ℕ → Trace → (ℕ → ℕ → ℕ) → Type 0
Solves cap t n trace flow = (i k : ℕ) → i < n → Equated cap t trace flow i k

-- It does, and is in the range of its sort, so that a count is never above the cap.
pub record Satisfied (cap : ℕ) (t : List ℕ) (trace : Trace) (flow : ℕ → ℕ → ℕ) (i k : ℕ) : Type 0 where
  pub equation : Equated cap t trace flow i k
  pub range : in_range cap (sort_of (kind_at t i)) (flow k i) ≡ true

-- Each of the n flows does, at every tick.
abbrev pub Lustre : ℕ → List ℕ → ℕ → Trace → (ℕ → ℕ → ℕ) → Type 0
Lustre cap t n trace flow = (i k : ℕ) → i < n → Satisfied cap t trace flow i k

-- The values f 0 to f (n - 1).
unfoldable pub firsts : (ℕ → ℕ) → ℕ → List ℕ
firsts f zero = []
firsts f (suc n) = firsts f n ++ (f n ∷ [])

-- SPEC 6.4: the step of the tick numbered k leaves the n flows in the lent values (SPEC 5.9), keeps what stood behind
-- them (SPEC 1.5), and answers what they say.
pub record Leaves (n : ℕ) (flow : ℕ → ℕ → ℕ) (k : ℕ) (s : Taken) : Type 0 where
  pub values : s.left.values ≡ firsts (flow k) n ++ drop n s.call.values
  pub answer : s.left.answer ≡ Ok (answer_of n (flow k))

-- SPEC 6.4, SPEC 12.2 (demand 2), of a table of n equations with counts up to the cap and so many velocities:
pub record RunsAsLustre (cap velocities : ℕ) (t : List ℕ) (n : ℕ) : Type 0 where
  -- On every trace there are flows that satisfy the equations and are in range,
  pub flow : Trace → ℕ → ℕ → ℕ
  pub solves : (trace : Trace) → Lustre cap t n trace (flow trace)
  -- and no others satisfy the equations.
  pub one : (trace : Trace) (f g : ℕ → ℕ → ℕ) → Solves cap t n trace f → Solves cap t n trace g
      → (k i : ℕ) → i < n → f k i ≡ g k i
  -- From the fresh state over any old cells, over every list of calls, refused ones included, each tick's step leaves
  -- the flows that Lustre gives at that tick. Past the last tick, where no step looks, the trace is as d.
  pub leaves : (old : List ℕ) → n ≤ length old → (calls : List Call) (d : Tick) (f : ℕ → ℕ → ℕ)
      → Solves cap t n (trace_of d (ticks (from_fresh cap velocities t n old calls))) f
      → EachTick (Leaves n f) 0 (from_fresh cap velocities t n old calls)
  pub decides : (old : List ℕ) → n ≤ length old → (calls : List Call)
      → CallsDecide cap velocities n calls (from_fresh cap velocities t n old calls)
