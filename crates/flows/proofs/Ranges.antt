-- In a well-formed table whose cells are in range, every flow is in the range of its sort, and so is every cell after
-- the tick; a fresh state is in range. Assumes nothing.
use mathlib.Core.Path.{◌≡◌, refl}
use mathlib.Core.Bool.{Bool, true, false, not, ◌&&◌, ◌||◌, cond}
use mathlib.Core.List.{List}
use mathlib.Core.Logic.{◌⊎◌, inl, inr, ⊎_elim}
use Prim.Native.Nat.{ℕ, zero, suc, ◌+◌, ◌≤◌, ◌<◌, min}
use native.Mathlib.Omega.{arith}
use lib.Dec.{ltb, eqb}
use lib.ListN.{length}
use borrow.Author.Tests.{le-leb, ltb-true}
use Rattle.traces.specs.declared.Tick.{Tick}
use Rattle.traces.specs.Trace.{truth, nonzero, signal_at, parameter_at, starts}
use Rattle.traces.specs.Compare.{op_of, compares}
use Rattle.lists.specs.Number.{number_at}
use Rattle.tables.specs.Table.{all, equation_at, kind_at, shape_of, sort_of}
use Rattle.tables.specs.Table.{same_sort, is_flow, operand_fits, shape_fits, equation_fits}
use Rattle.limits.specs.Limits.{truth_count}
use Rattle.flows.specs.Flow.{increased, value_of, flows, memories_set, initial, initial_at, fresh_state}
use Rattle.tables.specs.Table.{is_memory}
use Rattle.flows.specs.Flow.{operand_at, next_state, in_range}
use Rattle.flows.specs.Step.{cell_fits, cell_fits_at, cells_fit}
use Rattle.tables.specs.declared.Sort.{Sort}
use Rattle.tables.specs.declared.Sort.TheVariants.{Boolean, Count}
use Rattle.tables.proofs.Tests.{and-true, all-at, all_of}
use Rattle.flows.proofs.Buffers.{flows-kept, flows-at, set-cell}
use Rattle.std.specs.Prelude.{Option, Some, None}
use Rattle.tables.specs.declared.Kind.TheVariants.{Signal, Start, Constant, Not, And, Or, BooleanPre}
use Rattle.tables.specs.declared.Kind.TheVariants.{CountPre, Capped, If, CompareLiteral, CompareParameter, Velocity}
use Rattle.tables.specs.declared.Equation.{Equation}
use Rattle.tables.specs.declared.Kind.{Kind}

-- The memories are the kinds of the two `pre`.
pub memory-kind : (q : Option Kind) → is_memory q ≡ true → (q ≡ (Some BooleanPre)) ⊎ (q ≡ (Some CountPre))
unfolding is_memory
memory-kind (Some Signal) e = inl cc
memory-kind (Some Start) e = inl cc
memory-kind (Some Constant) e = inl cc
memory-kind (Some Not) e = inl cc
memory-kind (Some And) e = inl cc
memory-kind (Some Or) e = inl cc
memory-kind (Some BooleanPre) e = inl refl
memory-kind (Some CountPre) e = inr refl
memory-kind (Some Capped) e = inl cc
memory-kind (Some If) e = inl cc
memory-kind (Some CompareLiteral) e = inl cc
memory-kind (Some CompareParameter) e = inl cc
memory-kind (Some Velocity) e = inl cc
memory-kind None e = inl cc

-- An operand is one of the first m equations, of its sort.
pub flow-below : (t : List ℕ) (m : ℕ) (s : Sort) (x : ℕ) → is_flow t m s x ≡ true → x < m
unfolding is_flow
flow-below t m s x e = ltb-true x m (and-true (ltb x m) _ e).0

flow-sort : (t : List ℕ) (m : ℕ) (s : Sort) (x : ℕ) → is_flow t m s x ≡ true → same_sort (sort_of (kind_at t x)) s
    ≡ true
unfolding is_flow
flow-sort t m s x e = (and-true (ltb x m) _ e).1

module _ (cap : ℕ) where
  same-range : (r s : Sort) (x : ℕ) → same_sort r s ≡ true → in_range cap r x ≡ true → in_range cap s x ≡ true
  unfolding same_sort
  same-range Boolean Boolean x e h = h
  same-range Boolean Count x e h = cc
  same-range Count Boolean x e h = cc
  same-range Count Count x e h = h

  -- Each of the first m flows is in range.
  abbrev pub Ranged : List ℕ → ℕ → (ℕ → ℕ) → Type 0
  Ranged t m flow = (j : ℕ) → j < m → in_range cap (sort_of (kind_at t j)) (flow j) ≡ true

  operand-range : (t : List ℕ) (m : ℕ) (flow : ℕ → ℕ) → Ranged t m flow → (s : Sort) (x : ℕ) → is_flow t m s x ≡ true
      → in_range cap s (flow x) ≡ true
  operand-range t m flow h s x e =
      same-range (sort_of (kind_at t x)) s (flow x) (flow-sort t m s x e) (h x (flow-below t m s x e))

  truth-range : (b : Bool) → in_range cap Boolean (truth b) ≡ true
  unfolding in_range
  truth-range true = refl
  truth-range false = refl

  increased-range : (x : ℕ) (b : Bool) → in_range cap Count x ≡ true → in_range cap Count (increased cap x b) ≡ true
  unfolding in_range increased
  increased-range x true h = le-leb (min cap (x + 1)) cap (omega arith)
  increased-range x false h = h

  chosen-range : (b : Bool) (x : ℕ) → in_range cap Count x ≡ true → in_range cap Count (cond b x 0) ≡ true
  unfolding in_range
  chosen-range true x h = h
  chosen-range false x h = le-leb 0 cap (omega arith)

  -- A memory's cell that passes its test is in range.
  cell-range : (q : Option Kind) (x : ℕ) → is_memory q ≡ true → cell_fits cap q x ≡ true → in_range cap (sort_of q) x ≡ true
  unfolding cell_fits
  cell-range q x m e = rw m at e

  -- The value of an equation that fits is in range, if the flows that it reads and its cell are.
  module _ (velocities : ℕ) (t : List ℕ) (n i : ℕ) (k : Tick) (flow : ℕ → ℕ) (cell : ℕ)
      (earlier : Ranged t i flow) where
    value-range : (q : Option Kind) (e : Equation) → shape_fits velocities t n i (shape_of q) e ≡ true
        → cell_fits cap q cell ≡ true → in_range cap (sort_of q) (value_of cap k flow cell q e) ≡ true
    unfolding shape_fits shape_of operand_fits value_of is_memory in_range
    value-range (Some Signal) e f h = truth-range (signal_at k e.a)
    value-range (Some Start) e f h = truth-range (starts k)
    value-range (Some Constant) e f h = (and-true (ltb e.a truth_count) _ f).0
    value-range (Some Not) e f h = truth-range (not (nonzero (flow e.a)))
    value-range (Some And) e f h = truth-range (nonzero (flow e.a) && nonzero (flow e.b))
    value-range (Some Or) e f h = truth-range (nonzero (flow e.a) || nonzero (flow e.b))
    value-range (Some BooleanPre) e f h = cell-range (Some BooleanPre) cell refl h
    value-range (Some CountPre) e f h = cell-range (Some CountPre) cell refl h
    value-range (Some Capped) e f h =
        increased-range (flow e.a) (nonzero (flow e.b))
        (operand-range t i flow earlier Count e.a (and-true (is_flow t i Count e.a) _ f).0)
    value-range (Some If) e f h =
        let g = (and-true (is_flow t i Boolean e.a) _ f).1 in
        chosen-range (nonzero (flow e.a)) (flow e.b)
        (operand-range t i flow earlier Count e.b (and-true (is_flow t i Count e.b) _ g).0)
    value-range (Some CompareLiteral) e f h = truth-range (compares (op_of e.b) (flow e.a) e.c)
    value-range (Some CompareParameter) e f h = truth-range (compares (op_of e.b) (flow e.a) (parameter_at k e.c))
    value-range (Some Velocity) e f h = truth-range (compares (op_of e.a) k.velocity e.b)
    value-range None e f h = truth-range false

  -- What is written to a memory's cell, the initial value or the flow of the operand, is in range.
  module _ (velocities : ℕ) (t : List ℕ) (n i : ℕ) (e : Equation) where
    boolean-initial : shape_fits velocities t n i (shape_of (Some BooleanPre)) e ≡ true
        → in_range cap (sort_of (Some BooleanPre)) (initial (sort_of (Some BooleanPre)) e.c) ≡ true
    unfolding shape_fits shape_of operand_fits initial in_range
    boolean-initial f = (and-true (eqb e.b 0) _ (and-true (is_flow t n Boolean e.a) _ f).1).1

    count-initial : in_range cap (sort_of (Some CountPre)) (initial (sort_of (Some CountPre)) e.c) ≡ true
    unfolding shape_of initial in_range
    count-initial = le-leb 0 cap (omega arith)

    initial-range : (q : Option Kind) → shape_fits velocities t n i (shape_of q) e ≡ true → is_memory q ≡ true
        → in_range cap (sort_of q) (initial (sort_of q) e.c) ≡ true
    initial-range q f m =
        ⊎_elim (λ z. rw z (boolean-initial (rw z at f))) (λ z. rw z count-initial) (memory-kind q m)

    module _ (flow : ℕ → ℕ) (ranged : Ranged t n flow) where
      boolean-next : shape_fits velocities t n i (shape_of (Some BooleanPre)) e ≡ true
          → in_range cap (sort_of (Some BooleanPre)) (flow e.a) ≡ true
      unfolding shape_fits shape_of operand_fits
      boolean-next f = operand-range t n flow ranged Boolean e.a (and-true (is_flow t n Boolean e.a) _ f).0

      count_next : shape_fits velocities t n i (shape_of (Some CountPre)) e ≡ true
          → in_range cap (sort_of (Some CountPre)) (flow e.a) ≡ true
      unfolding shape_fits shape_of operand_fits
      count_next f = operand-range t n flow ranged Count e.a (and-true (is_flow t n Count e.a) _ f).0

      next-range : (q : Option Kind) → shape_fits velocities t n i (shape_of q) e ≡ true → is_memory q ≡ true
          → in_range cap (sort_of q) (flow e.a) ≡ true
      next-range q f m =
          ⊎_elim (λ z. rw z (boolean-next (rw z at f))) (λ z. rw z (count_next (rw z at f))) (memory-kind q m)

  cell-fits : (b x : Bool) → (b ≡ true → x ≡ true) → (not b || x) ≡ true
  cell-fits true x h = h refl
  cell-fits false x h = refl

  module _ (velocities : ℕ) (t : List ℕ) (n : ℕ) (fit : all (equation_fits velocities t n) n ≡ true) where
    -- By induction on a bound m of i.
    ranged_below : (k : Tick) (state : List ℕ) → cells_fit cap t n state ≡ true → (m i : ℕ) → i < m → m ≤ n
        → in_range cap (sort_of (kind_at t i)) (number_at (flows cap t k state n) i) ≡ true
    ranged_below k state h zero i l g = absurd (omega arith)
    ranged_below k state h (suc m) i l g =
        let before = number_at (flows cap t k state i) in
        let earlier : Ranged t i before =
        λ j r. rw (← flows-kept cap t k state n i j r (omega arith))
        (ranged_below k state h m j (omega arith) (omega arith)) in
        rw (flows-at cap t k state n i (omega arith))
        (value-range velocities t n i k before (number_at state i) earlier (kind_at t i) (equation_at t i)
        (all-at (equation_fits velocities t n) n fit i (omega arith))
        (all-at (cell_fits_at cap t state) n h i (omega arith)))

    -- The flows of a tick are in range.
    pub flows-range : (k : Tick) (state : List ℕ) → cells_fit cap t n state ≡ true
        → Ranged t n (number_at (flows cap t k state n))
    flows-range k state h i l = ranged_below k state h n i l (omega arith)

    -- Cells are in range once what is written to the memories is.
    set-fits : (f : ℕ → ℕ) (state : List ℕ) → n ≤ length state
        → ((i : ℕ) → i < n → is_memory (kind_at t i) ≡ true → in_range cap (sort_of (kind_at t i)) (f i) ≡ true)
        → cells_fit cap t n (memories_set t f n state) ≡ true
    unfolding cell_fits
    set-fits f state room h =
        all_of (cell_fits_at cap t (memories_set t f n state)) n
        (λ i l. cell-fits (is_memory (kind_at t i)) _ (λ m. rw (set-cell t f n i state l room m) (h i l m)))

    -- A fresh state is in range,
    pub fresh-fits : (old : List ℕ) → n ≤ length old → cells_fit cap t n (fresh_state t n old) ≡ true
    fresh-fits old room =
        set-fits (initial_at t) old room
        (λ i l m. initial-range velocities t n i (equation_at t i) (kind_at t i)
        (all-at (equation_fits velocities t n) n fit i l) m)

    -- and a tick leaves the cells in range.
    pub next_fits : (k : Tick) (state : List ℕ) → n ≤ length state → cells_fit cap t n state ≡ true
        → cells_fit cap t n (next_state t (flows cap t k state n) n state) ≡ true
    next_fits k state room h =
        let fs = flows cap t k state n in
        set-fits (operand_at t fs) state room
        (λ i l m. next-range velocities t n i (equation_at t i) (number_at fs) (flows-range k state h) (kind_at t i)
        (all-at (equation_fits velocities t n) n fit i l) m)
