-- A run of a well-formed table on a trace, from the fresh state: every flow satisfies its own equation and is in range,
-- no other flows satisfy the equations, and the cells are always in range. Assumes nothing.
use mathlib.Core.Path.{◌≡◌, refl, ◌∙◌, sym}
use mathlib.Core.Bool.{Bool, true, ◌&&◌}
use mathlib.Core.List.{List}
use mathlib.Core.Logic.{⊎_elim}
use Prim.Native.Nat.{ℕ, zero, suc, ◌≤◌, ◌<◌}
use native.Mathlib.Omega.{arith}
use lib.ListN.{length}
use Rattle.traces.specs.declared.Tick.{Tick}
use Rattle.traces.specs.Trace.{Trace}
use Rattle.lists.specs.Number.{number_at}
use Rattle.tables.specs.Table.{all, equation_at, kind_at, shape_of}
use Rattle.tables.specs.Table.{is_flow, operand_fits, shape_fits, equation_fits, passed, checked}
use Rattle.tables.specs.Table.{closing_count, started_of, verdict_of}
use Rattle.flows.specs.Flow.{value_of, flows, answer_of, initial_at, operand_at, fresh_state, next_state}
use Rattle.tables.specs.Table.{is_memory}
use Rattle.flows.specs.Step.{cells_fit}
use Rattle.flows.specs.Lustre.{remembered, Satisfied, Lustre, Solves}
use Rattle.tables.specs.declared.Sort.{Sort}
use Rattle.tables.specs.declared.Sort.TheVariants.{Boolean, Count}
use Rattle.tables.proofs.Tests.{and-true, all-at}
use Rattle.flows.proofs.Buffers.{flows-kept, flows-at, length-memories, set-cell}
use Rattle.tables.proofs.Checks.{checked-fitting}
use Rattle.flows.proofs.Ranges.{memory-kind, flow-below, flows-range, fresh-fits, next_fits}
use Rattle.std.specs.Prelude.{Option, Some, None}
use Rattle.tables.specs.declared.Kind.TheVariants.{Signal, Start, Constant, Not, And, Or, BooleanPre}
use Rattle.tables.specs.declared.Kind.TheVariants.{CountPre, Capped, If, CompareLiteral, CompareParameter, Velocity}
use Rattle.tables.specs.declared.Equation.{Equation}
use Rattle.tables.specs.declared.Kind.{Kind}

-- The state after a tick.
abbrev pub moved : ℕ → List ℕ → ℕ → Tick → List ℕ → List ℕ
moved cap t n k state = next_state t (flows cap t k state n) n state

-- A run of n equations on a trace, from the fresh state over the cells `old`.
module _ (cap : ℕ) (t : List ℕ) (n : ℕ) (old : List ℕ) (trace : Trace) where
  -- The state before tick k.
  unfoldable pub state_at : ℕ → List ℕ
  state_at zero = fresh_state t n old
  state_at (suc k) = moved cap t n (trace k) (state_at k)

  -- Flow i at tick k.
  unfoldable pub flow_at : ℕ → ℕ → ℕ
  flow_at k i = number_at (flows cap t (trace k) (state_at k) n) i

  -- SPEC 8.5: the answer at tick k.
  abbrev pub answer_at : ℕ → ℕ
  answer_at k = answer_of n (flow_at k)

-- Flows that are the same answer the same.
pub answer-same : (n : ℕ) (f g : ℕ → ℕ) → closing_count ≤ n → ((i : ℕ) → i < n → f i ≡ g i) → answer_of n f
    ≡ answer_of n g
unfolding answer_of
answer-same n f g closed same = rw (same (started_of n) (omega arith), same (verdict_of n) (omega arith))

-- The value of an equation that fits at i depends only on the flows before i, and on the cell if it is a memory.
module _ (cap velocities : ℕ) (t : List ℕ) (n i : ℕ) (k : Tick) (flow flow' : ℕ → ℕ) (cell cell' : ℕ)
    (same : (j : ℕ) → j < i → flow j ≡ flow' j) where
  -- An operand that is the first of two tests.
  same_operand : (s : Sort) (x : ℕ) (b : Bool) → (is_flow t i s x && b) ≡ true → flow x ≡ flow' x
  same_operand s x b e = same x (flow-below t i s x (and-true (is_flow t i s x) b e).0)

  pub value_same : (q : Option Kind) (e : Equation) → shape_fits velocities t n i (shape_of q) e ≡ true
      → (is_memory q ≡ true → cell ≡ cell') → value_of cap k flow cell q e ≡ value_of cap k flow' cell' q e
  unfolding shape_fits shape_of operand_fits value_of is_memory
  value_same (Some Signal) e f h = refl
  value_same (Some Start) e f h = refl
  value_same (Some Constant) e f h = refl
  value_same (Some Not) e f h = rw (same_operand Boolean e.a _ f)
  value_same (Some And) e f h =
      let g = (and-true (is_flow t i Boolean e.a) _ f).1 in
      rw (same_operand Boolean e.a _ f, same_operand Boolean e.b _ g)
  value_same (Some Or) e f h =
      let g = (and-true (is_flow t i Boolean e.a) _ f).1 in
      rw (same_operand Boolean e.a _ f, same_operand Boolean e.b _ g)
  value_same (Some BooleanPre) e f h = h refl
  value_same (Some CountPre) e f h = h refl
  value_same (Some Capped) e f h =
      let g = (and-true (is_flow t i Count e.a) _ f).1 in
      rw (same_operand Count e.a _ f, same_operand Boolean e.b _ g)
  value_same (Some If) e f h =
      let g = (and-true (is_flow t i Boolean e.a) _ f).1 in
      rw (same_operand Boolean e.a _ f, same_operand Count e.b _ g)
  value_same (Some CompareLiteral) e f h = rw (same_operand Count e.a _ f)
  value_same (Some CompareParameter) e f h = rw (same_operand Count e.a _ f)
  value_same (Some Velocity) e f h = refl
  value_same None e f h = refl

module _ (cap : ℕ) (t : List ℕ) (n : ℕ) (old : List ℕ) (trace : Trace) (room : n ≤ length old) where
  pub length-state : (k : ℕ) → length (state_at cap t n old trace k) ≡ length old
  unfolding state_at
  length-state zero = length-memories t (initial_at t) n old
  length-state (suc k) =
      let state = state_at cap t n old trace k in
      length-memories t (operand_at t (flows cap t (trace k) state n)) n state ∙ length-state k

  pub state-room : (k : ℕ) → n ≤ length (state_at cap t n old trace k)
  state-room k = rw (length-state k) room

  -- The cell of a memory: its initial value at the first tick, then the flow of its operand at the tick before.
  pub cell_at : (k i : ℕ) → i < n → is_memory (kind_at t i) ≡ true
      → number_at (state_at cap t n old trace k) i ≡ remembered t (flow_at cap t n old trace) i k
  unfolding state_at flow_at
  cell_at zero i h m = set-cell t (initial_at t) n i old h room m
  cell_at (suc k) i h m =
      let state = state_at cap t n old trace k in
      set-cell t (operand_at t (flows cap t (trace k) state n)) n i state h (state-room k) m

module _ (cap velocities : ℕ) (t : List ℕ) (n : ℕ) (old : List ℕ) (trace : Trace) (room : n ≤ length old)
    (fit : all (equation_fits velocities t n) n ≡ true) where
  -- The cells of a run are in range at every tick.
  pub state-fits : (k : ℕ) → cells_fit cap t n (state_at cap t n old trace k) ≡ true
  unfolding state_at
  state-fits zero = fresh-fits cap velocities t n fit old room
  state-fits (suc k) =
      next_fits cap velocities t n fit (trace k) (state_at cap t n old trace k) (state-room cap t n old trace room k)
      (state-fits k)

  satisfied : (i k : ℕ) → i < n → Satisfied cap t trace (flow_at cap t n old trace) i k
  unfolding flow_at
  satisfied i k h =
      let state = state_at cap t n old trace k in
      let fs = flows cap t (trace k) state in
      record {
        equation =
            flows-at cap t (trace k) state n i h
            ∙ value_same cap velocities t n i (trace k) (number_at (fs i)) (number_at (fs n)) (number_at state i) _
            (λ j g. sym (flows-kept cap t (trace k) state n i j g (omega arith)))
            (kind_at t i) (equation_at t i) (all-at (equation_fits velocities t n) n fit i h)
            (cell_at cap t n old trace room k i h);
        range = flows-range cap velocities t n fit (trace k) state (state-fits k) i h;
      }

-- The flows of a run satisfy the equations of the table.
pub lustre : (cap velocities : ℕ) (t : List ℕ) (n : ℕ) (old : List ℕ) (trace : Trace)
    → checked velocities t n ≡ passed → n ≤ length old → Lustre cap t n trace (flow_at cap t n old trace)
lustre cap velocities t n old trace e room i k h =
    satisfied cap velocities t n old trace room (checked-fitting velocities t n e).equations i k h

-- ---- no other flows satisfy them

-- The operand of a memory is one of the n flows.
memory-operand : (velocities : ℕ) (t : List ℕ) (n i : ℕ) (q : Option Kind) (e : Equation) → is_memory q ≡ true
    → shape_fits velocities t n i (shape_of q) e ≡ true → e.a < n
unfolding shape_fits shape_of operand_fits
memory-operand velocities t n i q e m f =
    ⊎_elim
    (λ p. flow-below t n Boolean e.a (and-true (is_flow t n Boolean e.a) _ (rw p at f)).0)
    (λ p. flow-below t n Count e.a (and-true (is_flow t n Count e.a) _ (rw p at f)).0)
    (memory-kind q m)

module _ (cap velocities : ℕ) (t : List ℕ) (n : ℕ) (trace : Trace) (fit : all (equation_fits velocities t n) n ≡ true)
    (f g : ℕ → ℕ → ℕ) (F : Solves cap t n trace f) (G : Solves cap t n trace g) where
  -- The flows of the tick before k are the same.
  Before : ℕ → Type 0
  Before zero = Unit {0}
  Before (suc k) = (i : ℕ) → i < n → f k i ≡ g k i

  cells_same : (k i : ℕ) → Before k → i < n → is_memory (kind_at t i) ≡ true → remembered t f i k ≡ remembered t g i k
  unfolding Before
  cells_same zero i before l m = refl
  cells_same (suc k) i before l m =
      before _
      (memory-operand velocities t n i (kind_at t i) (equation_at t i) m
      (all-at (equation_fits velocities t n) n fit i l))

  -- So are the first m flows of tick k.
  tick-same : (k : ℕ) → Before k → (m i : ℕ) → i < m → i < n → f k i ≡ g k i
  tick-same k before zero i h l = absurd (omega arith)
  tick-same k before (suc m) i h l =
      F i k l
      ∙ value_same cap velocities t n i (trace k) (f k) (g k) (remembered t f i k) (remembered t g i k)
      (λ j b. tick-same k before m j (omega arith) (omega arith)) (kind_at t i) (equation_at t i)
      (all-at (equation_fits velocities t n) n fit i l) (cells_same k i before l)
      ∙ sym (G i k l)

  pub flows-same : (k i : ℕ) → i < n → f k i ≡ g k i
  unfolding Before
  flows-same zero i l = tick-same zero tt n i l l
  flows-same (suc k) i l = tick-same (suc k) (flows-same k) n i l l
