-- SPEC 12.3 (demand 3): the agreement of an observer's answers with the interval meaning, as one statement about a list
-- of calls (SPEC 6.1). SPEC 12.7: how the table of a compiled rule closes. SPEC 12.8: how many memories it has.
-- Definitions only; the theorems are in proofs/Theorem.antt.
use Rattle.std.specs.Prelude.{List, [], ◌∷◌, ◌↔◌, ◌≡◌, ℕ, ◌+◌, ◌*◌, ◌-◌, ◌≤◌, ◌<◌, length, Ok}
use Rattle.traces.specs.declared.Tick.{Tick}
use Rattle.traces.specs.Trace.{Trace, trace_of, tick_of, idle_verdict}
use Rattle.formulas.specs.Formula.{Formula}
use Rattle.formulas.specs.Tree.{Tree, nodes, rule_memories}
use Rattle.formulas.specs.Meaning.{verdict}
use Rattle.formulas.specs.Laws.{Starts}
use Rattle.tables.specs.Kind.{START, AND, OR, BOOLEAN-PRE}
use Rattle.tables.specs.Table.{equation, equation_at, started_of, verdict_of, passed, checked}
use Rattle.flows.specs.Step.{freshened}
use Rattle.flows.specs.Run.{Call, Taken, from_fresh, ticks, EachTick, CallsDecide}
use Rattle.tables.specs.Table.{memories}

-- SPEC 12.7: the started flow's memory is the last equation but two,
abbrev pub memory_of : ℕ → ℕ
memory_of n = n - 3

-- and begins with 0; the started flow is equation 0, the start, or that memory; the verdict is the started flow and a
-- flow from before these three.
pub record Closing (t : List ℕ) (n : ℕ) : Type 0 where
  pub start : equation_at t 0 ≡ equation START 0 0 0
  pub memory : equation_at t (memory_of n) ≡ equation BOOLEAN-PRE (started_of n) 0 0
  pub started : equation_at t (started_of n) ≡ equation OR 0 (memory_of n) 0
  pub verdict : (x : ℕ) × (x < memory_of n) × (equation_at t (verdict_of n) ≡ equation AND (started_of n) x 0)

-- SPEC 12.8: of the n equations exactly so many are memories (SPEC 5.7) as the tree asks for,
abbrev pub ExactMemories : List ℕ → ℕ → Tree → Type 0
ExactMemories t n tree = memories t n ≡ rule_memories tree

-- and SPEC 12.3, which follows: two for each node (SPEC 3.8) at the most, and one besides.
abbrev pub FewMemories : List ℕ → ℕ → Tree → Type 0
FewMemories t n tree = memories t n ≤ 2 * nodes tree + 1

-- SPEC 12.3: all ticks have the same parameters, ps.
pub data SameParameters (ps : List ℕ) : List Tick → Type 0 where
  none : SameParameters ps []
  more : {k : Tick} {ks : List Tick} → k.parameters ≡ ps → SameParameters ps ks → SameParameters ps (k ∷ ks)

-- The trace of the ticks; past the last one, which no verdict looks at, ticks with those parameters.
abbrev pub trace_of_ticks : List ℕ → List Tick → Trace
trace_of_ticks ps ks = trace_of (tick_of 0 0 0 ps) ks

-- The step of the tick numbered k answers the verdict that the meaning of f has there.
abbrev pub AsMeant : Formula → Trace → ℕ → Taken → Type 0
AsMeant f trace k s = s.left.answer ≡ Ok (verdict trace f k)

-- The step of the tick numbered k answers idle exactly if none of the ticks up to it is a start.
abbrev pub IdleUntilStart : Trace → ℕ → Taken → Type 0
IdleUntilStart trace k s = (s.left.answer ≡ Ok idle_verdict) ↔ ((i : ℕ) → i ≤ k → ¬ Starts trace i)

-- The n equations of the table are an observer of the formula f.
pub record Observes (cap velocities : ℕ) (t : List ℕ) (n : ℕ) (f : Formula) : Type 0 where
  -- They pass the tests of refusals 10 and 11, so that a fresh state is made where there are cells for it.
  pub formed : checked velocities t n ≡ passed
  pub fresh : (old : List ℕ) → n ≤ length old → (freshened velocities t n old).answer ≡ passed
  -- The step of every tick answers the verdict (SPEC 4.10), from the fresh state over any old cells, over every list of
  -- calls, refused ones included, if the ticks have the same parameters. And SPEC 6.5 holds.
  pub agrees : (old : List ℕ) → n ≤ length old → (calls : List Call) (ps : List ℕ)
      → SameParameters ps (ticks (from_fresh cap velocities t n old calls))
      → EachTick (AsMeant f (trace_of_ticks ps (ticks (from_fresh cap velocities t n old calls)))) 0
      (from_fresh cap velocities t n old calls)
  pub decides : (old : List ℕ) → n ≤ length old → (calls : List Call)
      → CallsDecide cap velocities n calls (from_fresh cap velocities t n old calls)
  -- It answers idle exactly before the first start (SPEC 4.10), whatever parameters the ticks have. Past the last tick,
  -- where no step looks, the trace is as d.
  pub idle : (old : List ℕ) → n ≤ length old → (calls : List Call) (d : Tick)
      → EachTick (IdleUntilStart (trace_of d (ticks (from_fresh cap velocities t n old calls)))) 0
      (from_fresh cap velocities t n old calls)
