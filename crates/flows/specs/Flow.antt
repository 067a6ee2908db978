-- One tick of a table, over the cap of its counts: the flows, the fresh state and the next state. Definitions only.
use Rattle.std.specs.Prelude.{Bool, not, ◌&&◌, ◌||◌, cond, List, [], ◌∷◌, ◌++◌, ℕ, zero, suc, ◌+◌, min, ltb, leb, set}
use Rattle.traces.specs.declared.Tick.{Tick}
use Rattle.traces.specs.Trace.{truth, idle_verdict, nonzero, signal_at, parameter_at, starts}
use Rattle.traces.specs.Compare.{op_of, compares}
use Rattle.lists.specs.Number.{number_at}
use Rattle.tables.specs.Table.{is_memory, equation_at, kind_at, sort_of, started_of, verdict_of}
use Rattle.limits.specs.Limits.{truth_count}
use Rattle.tables.specs.declared.Sort.{Sort}
use Rattle.tables.specs.declared.Sort.TheVariants.{Boolean, Count}
use Rattle.std.specs.Prelude.{Option, Some, None}
use Rattle.tables.specs.declared.Kind.TheVariants.{Signal, Start, Constant, Not, And, Or, BooleanPre}
use Rattle.tables.specs.declared.Kind.TheVariants.{CountPre, Capped, If, CompareLiteral, CompareParameter, Velocity}
use Rattle.tables.specs.declared.Equation.{Equation}
use Rattle.tables.specs.declared.Kind.{Kind}

-- SPEC 5.3, kind 8: one more where it is asked for, up to the cap.
unfoldable pub increased : ℕ → ℕ → Bool → ℕ
increased cap x more = cond more (min cap (x + 1)) x

-- SPEC 5.3, the column of values: the value of an equation of that kind, from the tick, the flows that it reads and
-- its cell.
unfoldable pub value_of : ℕ → Tick → (ℕ → ℕ) → ℕ → Option Kind → Equation → ℕ
value_of cap k flow cell (Some Signal) e = truth (signal_at k e.a)
value_of cap k flow cell (Some Start) e = truth (starts k)
value_of cap k flow cell (Some Constant) e = e.a
value_of cap k flow cell (Some Not) e = truth (not (nonzero (flow e.a)))
value_of cap k flow cell (Some And) e = truth (nonzero (flow e.a) && nonzero (flow e.b))
value_of cap k flow cell (Some Or) e = truth (nonzero (flow e.a) || nonzero (flow e.b))
value_of cap k flow cell (Some BooleanPre) e = cell
value_of cap k flow cell (Some CountPre) e = cell
value_of cap k flow cell (Some Capped) e = increased cap (flow e.a) (nonzero (flow e.b))
value_of cap k flow cell (Some If) e = cond (nonzero (flow e.a)) (flow e.b) 0
value_of cap k flow cell (Some CompareLiteral) e = truth (compares (op_of e.b) (flow e.a) e.c)
value_of cap k flow cell (Some CompareParameter) e = truth (compares (op_of e.b) (flow e.a) (parameter_at k e.c))
value_of cap k flow cell (Some Velocity) e = truth (compares (op_of e.a) k.velocity e.b)
value_of cap k flow cell None e = 0

-- The value of equation i, after the flows before it.
abbrev pub value_at : ℕ → List ℕ → Tick → List ℕ → List ℕ → ℕ → ℕ
value_at cap t k state before i = value_of cap k (number_at before) (number_at state i) (kind_at t i) (equation_at t i)

-- The flows before equation i, and its own.
abbrev pub one_more : ℕ → List ℕ → Tick → List ℕ → ℕ → List ℕ → List ℕ
one_more cap t k state i before = before ++ (value_at cap t k state before i ∷ [])

-- SPEC 8.5: the first i flows of a tick.
unfoldable pub flows : ℕ → List ℕ → Tick → List ℕ → ℕ → List ℕ
flows cap t k state zero = []
flows cap t k state (suc i) = one_more cap t k state i (flows cap t k state i)

-- SPEC 8.5: what a tick answers whose n flows are these: idle where the started flow is 0, else the verdict's flow.
unfoldable pub answer_of : ℕ → (ℕ → ℕ) → ℕ
answer_of n flow = cond (nonzero (flow (started_of n))) (flow (verdict_of n)) idle_verdict

-- Cell i of the state set to f i, if equation i is a memory.
abbrev pub store : List ℕ → (ℕ → ℕ) → ℕ → List ℕ → List ℕ
store t f i state = cond (is_memory (kind_at t i)) (set state i (f i)) state

-- SPEC 5.8: f i in the cell of each memory i below n, and every other cell as it was.
unfoldable pub memories_set : List ℕ → (ℕ → ℕ) → ℕ → List ℕ → List ℕ
memories_set t f zero state = state
memories_set t f (suc i) state = store t f i (memories_set t f i state)

-- SPEC 8.4: what a memory gives first, by its sort.
unfoldable pub initial : Sort → ℕ → ℕ
initial Boolean c = c
initial Count c = 0

abbrev pub initial_at : List ℕ → ℕ → ℕ
initial_at t i = initial (sort_of (kind_at t i)) (equation_at t i).c

-- SPEC 8.4: the fresh state of n equations, over the cells of an old one.
abbrev pub fresh_state : List ℕ → ℕ → List ℕ → List ℕ
fresh_state t n state = memories_set t (initial_at t) n state

-- The flow of the operand of memory i.
abbrev pub operand_at : List ℕ → List ℕ → ℕ → ℕ
operand_at t fs i = number_at fs (equation_at t i).a

-- SPEC 5.8, SPEC 8.5: the state for the next tick, after a tick with the flows fs.
abbrev pub next_state : List ℕ → List ℕ → ℕ → List ℕ → List ℕ
next_state t fs n state = memories_set t (operand_at t fs) n state

-- SPEC 5.2: the values of each sort.
unfoldable pub in_range : ℕ → Sort → ℕ → Bool
in_range cap Boolean x = ltb x truth_count
in_range cap Count x = leb x cap
