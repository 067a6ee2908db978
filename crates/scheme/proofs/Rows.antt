-- The rows of each node fit, by the computed test of Roles, and their result is a boolean; only a run's, in a `lag`, is
-- a count. Assumes nothing.
use mathlib.Core.Bool.{Bool, true, false}
use mathlib.Core.List.{List}
use mathlib.Core.Path.{◌≡◌, refl, ap}
use Prim.Native.Nat.{ℕ, suc, ◌≤◌, ◌<◌}
use native.Mathlib.Omega.{arith}
use lib.ListN.{length}
use borrow.Author.Tests.{ltb-true}
use Rattle.traces.specs.Trace.{truth}
use Rattle.traces.specs.Compare.{op_number}
use Rattle.traces.specs.declared.Op.{Op}
use Rattle.traces.specs.declared.Op.TheVariants.{AtMost as le, Below as lt, Equal as eq, Above as gt, AtLeast as ge}
use Rattle.formulas.specs.Formula.{Num}
use Rattle.formulas.specs.Formula.Num.{literal, parameter}
use Rattle.formulas.specs.Arena.{num_kind}
use Rattle.formulas.specs.Bounds.{num_bound}
use Rattle.tables.specs.Table.{all, kind_of, kind_at, shape_of, sort_of, same_sort}
use Rattle.limits.specs.Limits.{truth_count, comparison_count}
use Rattle.limits.specs.Limits.{literal_count, parameter_count}
use Rattle.tables.specs.declared.Sort.{Sort}
use Rattle.tables.specs.declared.Sort.TheVariants.{Boolean, Count}
use Rattle.tables.specs.Kind.{CONSTANT, NOT, AND, OR, IF}
use Rattle.scheme.specs.Scheme.{◌⊕◌, constant_rows, not_rows, and_rows, or_rows, begin_rows, point_rows, kept_rows}
use Rattle.scheme.specs.Scheme.{held_rows, len_rows, sum_rows, run_rows, age_rows, fine_rows, lead_end_rows, then_rows}
use Rattle.scheme.specs.Scheme.{whole_rows, value_named, comparison_of, filled}
use Rattle.scheme.specs.Scheme.{Name}
use Rattle.scheme.specs.Scheme.Name.{Nought, Negated, Start, Last, Previous, Signal, Tested, A, C}
use Rattle.scheme.specs.Scheme.Name.{First, Second, Third, Fourth, Fifth}
use Rattle.scheme.specs.Scheme.{Row}
use Rattle.scheme.specs.Scheme.{Values}
use Rattle.scheme.specs.Emit.{flows_at, comparing, constant_at}
use Rattle.scheme.specs.Emit.{constant-es, not-es, and-es, or-es, begin-es, point-es, kept-es, held-es}
use Rattle.scheme.specs.Emit.{len-es, sum-es, age-es, run-es, fine-es, always-es, lead-end-es, then-es, whole-es}
use Rattle.scheme.proofs.Places.{Each}
use Rattle.scheme.proofs.Roles.{Role, roles_of, rows_ok, Before, later, Fits, KindAt, Plays, rows_fit}
use Rattle.scheme.proofs.Roles.Role.{given, free}
use Rattle.tables.specs.declared.Equation.{Equation}

truth-below : (c : Bool) → truth c < truth_count
truth-below true = omega arith
truth-below false = omega arith

pub op-below : (o : Op) → op_number o < comparison_count
op-below le = omega arith
op-below lt = omega arith
op-below eq = omega arith
op-below gt = omega arith
op-below ge = omega arith

-- In a table t of N equations, from place o on:
module _ (velocities : ℕ) (t : List ℕ) (N o : ℕ) where
  abbrev pub Kinded : List Equation → Type 0
  Kinded = Each (KindAt t) o

  -- The equations fit, and the flow v is one of that sort before place o';
  abbrev pub FineOf : Sort → List Equation → ℕ → ℕ → Type 0
  FineOf s es o' v = Each (Fits velocities t N) o es × Before t o' s v

  -- it is a boolean.
  abbrev pub Fine : List Equation → ℕ → ℕ → Type 0
  Fine = FineOf Boolean

  -- An equation of a kind of that sort.
  pub here : {s : Sort} (x k : ℕ) → kind_at t x ≡ kind_of k → same_sort (sort_of (kind_of k)) s ≡ true
      → Before t (suc x) s x
  here x k e h = record { earlier = omega arith; sorted = rw e h }

  -- ---- rows with these values

  -- One of the start flows and operands in a node's rows: it is not used, or it is a flow of that sort before them.
  data Given : Role → ℕ → Type 0 where
    unused : Given free 0
    used : {s : Sort} {x : ℕ} → Before t o s x → Given (given s) x

  plays : {r : Role} {x : ℕ} → Given r x → Plays velocities t N o r x
  plays unused = tt
  plays (used b) = b

  -- Rows at o, where A is below ba and C below bc.
  module _ (v : Values) (placed : v.place ≡ o) {rn rs rp rq : Role} (gn : Given rn v.negated)
      (gs : Given rs v.start)
      (gp : Given rp v.last) (gq : Given rq v.previous) where
    numbers_fit : (ba bc : ℕ) (rows : List Row) → v.a < ba → v.c < bc → o ⊕ length rows ≤ N
        → Kinded (filled v rows) → rows_ok v (roles_of rn rs rp rq ba bc) rows ≡ true
        → Each (Fits velocities t N) o (filled v rows)
    numbers_fit ba bc rows la lc room kinds ok =
        rows_fit velocities t N o v (roles_of rn rs rp rq ba bc) rows play room kinds ok
      where
        play : (x : Name) → Plays velocities t N o (roles_of rn rs rp rq ba bc x) (value_named v x)
        play Nought = refl
        play Negated = plays gn
        play Start = plays gs
        play Last = plays gp
        play Previous = plays gq
        play Signal = tt
        play Tested = tt
        play A = la
        play C = lc
        play First = placed
        play Second = ap (λ (k : ℕ). k ⊕ 1) placed
        play Third = ap (λ (k : ℕ). k ⊕ 2) placed
        play Fourth = ap (λ (k : ℕ). k ⊕ 3) placed
        play Fifth = ap (λ (k : ℕ). k ⊕ 4) placed

  -- Rows without numbers.
  module _ {rn rs rp rq : Role} {n s p q : ℕ} (gn : Given rn n) (gs : Given rs s) (gp : Given rp p) (gq : Given rq q)
    where
      plain-fit : (rows : List Row) → o ⊕ length rows ≤ N → Kinded (filled (flows_at o n s p q) rows)
          → rows_ok (flows_at o n s p q) (roles_of rn rs rp rq 1 1) rows ≡ true
          → Each (Fits velocities t N) o (filled (flows_at o n s p q) rows)
      plain-fit rows = numbers_fit (flows_at o n s p q) refl gn gs gp gq 1 1 rows (omega arith) (omega arith)

  -- Rows with a comparison, with a literal below the cap, which is at most a million, or with a parameter.
  module _ {rn rp rq : Role} {n p q : ℕ} (gn : Given rn n) (gp : Given rp p) (gq : Given rq q) where
    compare-fit : (cap : ℕ) → cap ≤ literal_count → (op : Op) (x : Num) → num_bound cap velocities x ≡ true
        → (rows : List Row) → o ⊕ length rows ≤ N → Kinded (filled (comparing o n p q op x) rows)
        → ((c : ℕ) → rows_ok (comparing o n p q op (literal c))
        (roles_of rn free rp rq comparison_count literal_count) rows ≡ true)
        → ((c : ℕ) → rows_ok (comparing o n p q op (parameter c))
        (roles_of rn free rp rq comparison_count parameter_count) rows ≡ true)
        → Each (Fits velocities t N) o (filled (comparing o n p q op x) rows)
    compare-fit cap low op (literal c) bound rows room kinds ok ok' =
        numbers_fit (comparing o n p q op (literal c)) refl gn unused gp gq comparison_count literal_count
        rows (op-below op) (omega (arith, ltb-true c cap bound)) room kinds (ok c)
    compare-fit cap low op (parameter c) bound rows room kinds ok ok' =
        numbers_fit (comparing o n p q op (parameter c)) refl gn unused gp gq comparison_count parameter_count
        rows (op-below op) (ltb-true c parameter_count bound) room kinds (ok' c)

  -- A comparison is boolean.
  compare-boolean : (x : Num) → same_sort (sort_of (kind_of (comparison_of (num_kind x)))) Boolean ≡ true
  unfolding kind_of shape_of same_sort
  compare-boolean (literal n) = refl
  compare-boolean (parameter j) = refl

  -- ---- the rows of each node

  pub constant-fine : (c : Bool) → o ⊕ 1 ≤ N → Kinded (constant-es c o) → Fine (constant-es c o) (o ⊕ 1) o
  unfolding all kind_of shape_of same_sort
  constant-fine c room k = (
    numbers_fit (constant_at o c) refl unused unused unused unused truth_count 1 constant_rows (truth-below c)
        (omega arith)
        room k refl,
    here o CONSTANT k.0 refl,
  )

  pub not-fine : {p : ℕ} → Before t o Boolean p → o ⊕ 1 ≤ N → Kinded (not-es o p) → Fine (not-es o p) (o ⊕ 1) o
  unfolding all kind_of shape_of same_sort
  not-fine p room k = (plain-fit unused unused (used p) unused not_rows room k refl, here o NOT k.0 refl)

  module _ {q p : ℕ} (bq : Before t o Boolean q) (bp : Before t o Boolean p) where
    pub and-fine : o ⊕ 1 ≤ N → Kinded (and-es o q p) → Fine (and-es o q p) (o ⊕ 1) o
    unfolding all kind_of shape_of same_sort
    and-fine room k = (plain-fit unused unused (used bp) (used bq) and_rows room k refl, here o AND k.0 refl)

    pub or-fine : o ⊕ 1 ≤ N → Kinded (or-es o q p) → Fine (or-es o q p) (o ⊕ 1) o
    unfolding all kind_of shape_of same_sort
    or-fine room k = (plain-fit unused unused (used bp) (used bq) or_rows room k refl, here o OR k.0 refl)

  -- The start flow s, its negation n, and the flow p of a proposition.
  module _ {s n p : ℕ} (bs : Before t o Boolean s) (bn : Before t o Boolean n) (bp : Before t o Boolean p) where
    pub begin-fine : o ⊕ 4 ≤ N → Kinded (begin-es s n o p) → Fine (begin-es s n o p) (o ⊕ 4) (o ⊕ 3)
    unfolding all kind_of shape_of same_sort
    begin-fine room k =
        (plain-fit (used bn) (used bs) (used bp) unused begin_rows room k refl, here (o ⊕ 3) OR k.1.1.1.0 refl)

    pub point-fine : o ⊕ 1 ≤ N → Kinded (point-es s o p) → Fine (point-es s o p) (o ⊕ 1) o
    unfolding all kind_of shape_of same_sort
    point-fine room k = (plain-fit unused (used bs) (used bp) unused point_rows room k refl, here o AND k.0 refl)

    pub kept_fine : o ⊕ 3 ≤ N → Kinded (kept-es s o p) → Fine (kept-es s o p) (o ⊕ 3) (o ⊕ 1)
    unfolding all kind_of shape_of same_sort
    kept_fine room k = (
      plain-fit unused (used bs) (used bp) unused kept_rows room k refl,
      later (here (o ⊕ 1) OR k.1.0 refl) (omega arith),
    )

    -- The rows of `kept`, with their conjunction as the result.
    pub always-fine : o ⊕ 3 ≤ N → Kinded (always-es s o p) → Fine (always-es s o p) (o ⊕ 3) (o ⊕ 2)
    unfolding all kind_of shape_of same_sort
    always-fine room k = ((kept_fine room k).0, here (o ⊕ 2) AND k.1.1.0 refl)

    pub held-fine : o ⊕ 4 ≤ N → Kinded (held-es s n o p) → Fine (held-es s n o p) (o ⊕ 4) (o ⊕ 3)
    unfolding all kind_of shape_of same_sort
    held-fine room k =
        (plain-fit (used bn) (used bs) (used bp) unused held_rows room k refl, here (o ⊕ 3) AND k.1.1.1.0 refl)

    module _ (cap : ℕ) (low : cap ≤ literal_count) (op : Op) (x : Num) (bound : num_bound cap velocities x ≡ true) where
      pub len-fine : o ⊕ 4 ≤ N → Kinded (len-es n o op x) → Fine (len-es n o op x) (o ⊕ 4) (o ⊕ 3)
      unfolding all kind_of shape_of same_sort
      len-fine room k = (
        compare-fit (used bn) unused unused cap low op x bound len_rows room k (λ c. refl) (λ c. refl),
        here (o ⊕ 3) (comparison_of (num_kind x)) k.1.1.1.0 (compare-boolean x),
      )

      pub sum-fine : o ⊕ 4 ≤ N → Kinded (sum-es n op x o p) → Fine (sum-es n op x o p) (o ⊕ 4) (o ⊕ 3)
      unfolding all kind_of shape_of same_sort
      sum-fine room k = (
        compare-fit (used bn) (used bp) unused cap low op x bound sum_rows room k (λ c. refl) (λ c. refl),
        here (o ⊕ 3) (comparison_of (num_kind x)) k.1.1.1.0 (compare-boolean x),
      )

      pub age-fine : o ⊕ 5 ≤ N → Kinded (age-es n op x o p) → Fine (age-es n op x o p) (o ⊕ 5) (o ⊕ 4)
      unfolding all kind_of shape_of same_sort
      age-fine room k = (
        compare-fit (used bn) (used bp) unused cap low op x bound age_rows room k (λ c. refl) (λ c. refl),
        here (o ⊕ 4) (comparison_of (num_kind x)) k.1.1.1.1.0 (compare-boolean x),
      )

  -- The run of the proposition p in a `lag`, a count,
  pub run-fine : {n p : ℕ} → Before t o Boolean n → Before t o Boolean p → o ⊕ 4 ≤ N → Kinded (run-es n o p)
      → FineOf Count (run-es n o p) (o ⊕ 4) (o ⊕ 1)
  unfolding all kind_of shape_of same_sort
  run-fine bn bp room k = (
    plain-fit (used bn) unused (used bp) unused run_rows room k refl,
    later (here (o ⊕ 1) IF k.1.0 refl) (omega arith),
  )

  -- and that its q holds if it is due after the run r.
  pub due-fine : {r q : ℕ} → Before t o Count r → Before t o Boolean q → (cap : ℕ) → cap ≤ literal_count → (x : Num)
      → num_bound cap velocities x ≡ true → o ⊕ 4 ≤ N → Kinded (fine-es x o r q)
      → Fine (fine-es x o r q) (o ⊕ 4) (o ⊕ 3)
  unfolding all kind_of shape_of same_sort
  due-fine br bq cap low x bound room k = (
    compare-fit unused (used bq) (used br) cap low lt x bound fine_rows room k (λ c. refl) (λ c. refl),
    here (o ⊕ 3) OR k.1.1.1.0 refl,
  )

  -- The end of the lead p: flows 3 and 4 are the second part's start and its negation.
  pub lead-end-fine : {n p : ℕ} → Before t o Boolean n → Before t o Boolean p → o ⊕ 5 ≤ N → Kinded (lead-end-es n o p)
      → Each (Fits velocities t N) o (lead-end-es n o p)
      × (Before t (o ⊕ 5) Boolean (o ⊕ 3) × Before t (o ⊕ 5) Boolean (o ⊕ 4))
  unfolding all kind_of shape_of same_sort
  lead-end-fine bn bp room k = (
    plain-fit (used bn) unused (used bp) unused lead_end_rows room k refl,
    (later (here (o ⊕ 3) AND k.1.1.1.0 refl) (omega arith), here (o ⊕ 4) NOT k.1.1.1.1.0 refl),
  )

  -- What follows the second part p, whose start is s.
  pub rest-fine : {n s p : ℕ} → Before t o Boolean n → Before t o Boolean s → Before t o Boolean p → o ⊕ 4 ≤ N
      → Kinded (then-es n o s p) → Fine (then-es n o s p) (o ⊕ 4) (o ⊕ 3)
  unfolding all kind_of shape_of same_sort
  rest-fine bn bs bp room k =
      (plain-fit unused (used bs) (used bp) (used bn) then_rows room k refl, here (o ⊕ 3) AND k.1.1.1.0 refl)

  -- The closing rows, for the start flow s and the formula's result p.
  pub whole-fine : {s p : ℕ} → Before t o Boolean s → Before t o Boolean p → o ⊕ 3 ≤ N → Kinded (whole-es s o p)
      → Fine (whole-es s o p) (o ⊕ 3) (o ⊕ 2)
  unfolding all kind_of shape_of same_sort
  whole-fine bs bp room k =
      (plain-fit unused (used bs) (used bp) unused whole_rows room k refl, here (o ⊕ 2) AND k.1.1.0 refl)
