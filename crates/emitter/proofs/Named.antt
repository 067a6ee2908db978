-- What a formula's records leave for the table's head: the marks are the signals that the formula names, and the tests
-- are the formula's. Assumes nothing.
use mathlib.Core.Bool.{Bool, true, false, ◌||◌}
use mathlib.Core.List.{List, [], ◌∷◌, ◌++◌, append_assoc, append-nil}
use mathlib.Core.Path.{◌≡◌, refl, sym, ap, ◌∙◌, subst}
use Prim.Native.Nat.{ℕ, ◌+◌, ◌<◌}
use native.Mathlib.Decide.{ℕ_discrete}
use borrow.Author.Tests.{eq-eqb, ne_eqb}
use lib.Dec.{eqb}
use lib.ListN.{set, length, length-set, replicate, get_or-replicate, length-replicate}
use lib.Seq.{get_or-set_same, get_or-set_other}
use Rattle.lists.specs.Number.{number_at}
use Rattle.traces.specs.Trace.{truth, nonzero}
use Rattle.traces.specs.Compare.{op_number}
use Rattle.traces.specs.declared.Op.TheVariants.{Below as lt}
use Rattle.formulas.specs.Formula.{Prop, Test, Count, Formula}
use Rattle.formulas.specs.Formula.Prop.{constant, signal, velocity, neg_p, and_p, or_p}
use Rattle.formulas.specs.Formula.Test.{begin, end, point, held, kept}
use Rattle.formulas.specs.Formula.Count.{sum, age}
use Rattle.formulas.specs.Formula.Formula.{test, len, count, lag, neg, and, or, then}
use Rattle.formulas.specs.Arena.{CONSTANT, SIGNAL, NOT, AND, OR, TEST, LEN, COUNT, RUN, FINE, ALWAYS, LEAD-END, THEN}
use Rattle.formulas.specs.Arena.{VELOCITY, test_number, count_number, num_kind, num_value, row, flat}
use Rattle.formulas.proofs.Formulas.{raw_p, raw}
use Rattle.tables.specs.Kind as tables
use Rattle.tables.specs.Table.{equation}
use Rattle.scheme.specs.Emit.{named_by_p, named_by, tests_p, tests_of}
use Rattle.emitter.specs.Machine.{marked, marks, tests_in, records}
use Rattle.tables.specs.declared.Equation.{Equation}

-- A record of this kind is no leaf's that the table's head has a part of.
abbrev Other : ℕ → Type 0
Other k = (eqb k SIGNAL ≡ false) × (eqb k VELOCITY ≡ false)

-- The records l mark the signals of ν and have the tests ts, whatever records follow: `on` are the marks then.
record Leaves (l : List ℕ) (ν : ℕ → Bool) (ts : List Equation) : Type 0 where
  on : List ℕ → List ℕ
  left : (r named : List ℕ) → marks (l ++ r) named ≡ marks r (on named)
  long : (named : List ℕ) → length (on named) ≡ length named
  adds : (named : List ℕ) (j : ℕ) → j < length named →
      nonzero (number_at (on named) j) ≡ (ν j || nonzero (number_at named j))
  tests : (r : List ℕ) → tests_in (l ++ r) ≡ ts ++ tests_in r

-- A record of no leaf adds nothing,
record Passed (l : List ℕ) : Type 0 where
  marks-left : (r named : List ℕ) → marks (l ++ r) named ≡ marks r named
  tests_left : (r : List ℕ) → tests_in (l ++ r) ≡ tests_in r

passed : (k a b c : ℕ) → Other k → Passed (row k a b c)
unfolding marks marked tests_in records
passed k a b c e = record { marks-left = λ r named. rw e.0; tests_left = λ r. rw e.1 }

other : (k a b c : ℕ) → Other k → Leaves (row k a b c) (λ j. false) []
other k a b c e =
    let none = passed k a b c e in
    record {
      on = λ named. named;
      left = none.marks-left;
      long = λ named. refl;
      adds = λ named j h. refl;
      tests = none.tests_left;
    }

-- a signal's marks the signal,
one-mark : (i : ℕ) (named : List ℕ) (j : ℕ) → j < length named → Dec (i ≡ j) →
    nonzero (number_at (set named i 1) j) ≡ (eqb i j || nonzero (number_at named j))
one-mark i named j h (yes e) = rw (eq-eqb i j e, e, get_or-set_same named j 1 0 h)
one-mark i named j h (no n) = rw (ne_eqb i j n, get_or-set_other named i j 1 0 (λ e. n (sym e)))

of-signal : (i : ℕ) → Leaves (row SIGNAL i 0 0) (λ j. eqb i j) []
unfolding marks marked tests_in records
of-signal i =
    record {
      on = λ named. set named i 1;
      left = λ r named. refl;
      long = λ named. length-set named i 1;
      adds = λ named j h. one-mark i named j h (ℕ_discrete i j);
      tests = λ r. refl;
    }

-- a velocity test's has its test,
of-velocity : (a b : ℕ) → Leaves (row VELOCITY a b 0) (λ j. false) (equation tables.VELOCITY a b 0 ∷ [])
unfolding marks marked tests_in records
of-velocity a b =
    record {
      on = λ named. named;
      left = λ r named. refl;
      long = λ named. refl;
      adds = λ named j h. refl;
      tests = λ r. refl;
    }

-- and records after others have both.
or_swap : (a b x : Bool) → (b || (a || x)) ≡ ((a || b) || x)
or_swap true true x = refl
or_swap true false x = refl
or_swap false true x = refl
or_swap false false x = refl

both : (l m : List ℕ) (μ ν : ℕ → Bool) (ts us : List Equation) → Leaves l μ ts → Leaves m ν us
    → Leaves (l ++ m) (λ j. μ j || ν j) (ts ++ us)
both l m μ ν ts us g h =
    record {
      on = λ named. h.on (g.on named);
      left = λ r named. rw (append_assoc l m r) (g.left (m ++ r) named ∙ h.left r (g.on named));
      long = λ named. h.long (g.on named) ∙ g.long named;
      adds = λ named j k.
          h.adds (g.on named) j (subst (λ (n : ℕ). j < n) (sym (g.long named)) k)
          ∙ ap (λ (x : Bool). ν j || x) (g.adds named j k)
          ∙ or_swap (μ j) (ν j) (nonzero (number_at named j));
      tests = λ r.
          rw (append_assoc l m r, append_assoc ts us (tests_in r))
          (g.tests (m ++ r) ∙ ap (λ (l : List Equation). ts ++ l) (h.tests r));
    }

-- Records of no leaf after others; one after others, and before them.
records-after : (l : List ℕ) (ν : ℕ → Bool) (ts : List Equation) (m : List ℕ) → Passed m → Leaves l ν ts
    → Leaves (l ++ m) ν ts
records-after l ν ts m none g =
    record {
      on = g.on;
      left = λ r named. rw (append_assoc l m r) (g.left (m ++ r) named ∙ none.marks-left r (g.on named));
      long = g.long;
      adds = g.adds;
      tests = λ r.
          rw (append_assoc l m r) (g.tests (m ++ r) ∙ ap (λ (l : List Equation). ts ++ l) (none.tests_left r));
    }

record-after : (l : List ℕ) (ν : ℕ → Bool) (ts : List Equation) (k a b c : ℕ) → Other k → Leaves l ν ts
    → Leaves (l ++ row k a b c) ν ts
record-after l ν ts k a b c e = records-after l ν ts (row k a b c) (passed k a b c e)

record-before : (l : List ℕ) (ν : ℕ → Bool) (ts : List Equation) (k a b c : ℕ) → Other k → Leaves l ν ts
    → Leaves (row k a b c ++ l) ν ts
record-before l ν ts k a b c e g =
    let none = passed k a b c e in
    record {
      on = g.on;
      left = λ r named. none.marks-left (l ++ r) named ∙ g.left r named;
      long = g.long;
      adds = g.adds;
      tests = λ r. none.tests_left (l ++ r) ∙ g.tests r;
    }

-- ---- propositions and formulas

abbrev LeavesP : Prop → Type 0
LeavesP p = Leaves (flat (raw_p p)) (named_by_p p) (tests_p p)

abbrev LeavesOf : Formula → Type 0
LeavesOf f = Leaves (flat (raw f)) (named_by f) (tests_of f)

-- A record after those of one proposition or formula, and after those of two.
after-prop : (p : Prop) (k a b c : ℕ) → Other k → LeavesP p
    → Leaves (flat (raw_p p) ++ row k a b c) (named_by_p p) (tests_p p)
after-prop p = record-after (flat (raw_p p)) (named_by_p p) (tests_p p)

both-props : (p q : Prop) (k : ℕ) → Other k → LeavesP p → LeavesP q
    → Leaves (flat (raw_p p) ++ (flat (raw_p q) ++ row k 0 0 0)) (λ j. named_by_p p j || named_by_p q j)
    (tests_p p ++ tests_p q)
both-props p q k e g h =
    both (flat (raw_p p)) (flat (raw_p q) ++ row k 0 0 0) (named_by_p p) (named_by_p q) (tests_p p) (tests_p q) g
    (after-prop q k 0 0 0 e h)

leaves-prop : (p : Prop) → LeavesP p
leaves-prop (constant c) = other CONSTANT (truth c) 0 0 (refl, refl)
leaves-prop (signal i) = of-signal i
leaves-prop (velocity o n) = of-velocity (op_number o) n
leaves-prop (neg_p p) = after-prop p NOT 0 0 0 (refl, refl) (leaves-prop p)
leaves-prop (and_p p q) = both-props p q AND (refl, refl) (leaves-prop p) (leaves-prop q)
leaves-prop (or_p p q) = both-props p q OR (refl, refl) (leaves-prop p) (leaves-prop q)

-- No test and no count has a leaf's kind.
test-other : (k : Test) → Other (TEST + test_number k)
test-other begin = (refl, refl)
test-other end = (refl, refl)
test-other point = (refl, refl)
test-other held = (refl, refl)
test-other kept = (refl, refl)

count-other : (k : Count) → Other (COUNT + count_number k)
count-other sum = (refl, refl)
count-other age = (refl, refl)

after-formula : (f : Formula) (k : ℕ) → Other k → LeavesOf f
    → Leaves (flat (raw f) ++ row k 0 0 0) (named_by f) (tests_of f)
after-formula f k = record-after (flat (raw f)) (named_by f) (tests_of f) k 0 0 0

both-formulas : (f g : Formula) (k : ℕ) → Other k → LeavesOf f → LeavesOf g
    → Leaves (flat (raw f) ++ (flat (raw g) ++ row k 0 0 0)) (λ j. named_by f j || named_by g j)
    (tests_of f ++ tests_of g)
both-formulas f g k e x y =
    both (flat (raw f)) (flat (raw g) ++ row k 0 0 0) (named_by f) (named_by g) (tests_of f) (tests_of g) x
    (after-formula g k e y)

leaves-formula : (f : Formula) → LeavesOf f
leaves-formula (test k p) = after-prop p (TEST + test_number k) 0 0 0 (test-other k) (leaves-prop p)
leaves-formula (len o n) = other LEN (op_number o) (num_kind n) (num_value n) (refl, refl)
leaves-formula (count k p o n) =
    after-prop p (COUNT + count_number k) (op_number o) (num_kind n) (num_value n) (count-other k) (leaves-prop p)
leaves-formula (lag p n q) =
    let always : List ℕ = row ALWAYS 0 0 0 in
    let closing : List ℕ = row FINE (op_number lt) (num_kind n) (num_value n) ++ always in
    let fine-passed = passed FINE (op_number lt) (num_kind n) (num_value n) (refl, refl) in
    let always-passed = passed ALWAYS 0 0 0 (refl, refl) in
    let none : Passed closing = record {
      marks-left = λ r named. fine-passed.marks-left (always ++ r) named ∙ always-passed.marks-left r named;
      tests_left = λ r. fine-passed.tests_left (always ++ r) ∙ always-passed.tests_left r;
    } in
    let rest : List ℕ = flat (raw_p q) ++ closing in
    both (flat (raw_p p)) (row RUN 0 0 0 ++ rest) (named_by_p p) (named_by_p q) (tests_p p) (tests_p q) (leaves-prop p)
    (record-before rest (named_by_p q) (tests_p q) RUN 0 0 0 (refl, refl)
    (records-after (flat (raw_p q)) (named_by_p q) (tests_p q) closing none (leaves-prop q)))
leaves-formula (neg f) = after-formula f NOT (refl, refl) (leaves-formula f)
leaves-formula (and f g) = both-formulas f g AND (refl, refl) (leaves-formula f) (leaves-formula g)
leaves-formula (or f g) = both-formulas f g OR (refl, refl) (leaves-formula f) (leaves-formula g)
leaves-formula (then f g) =
    let rest : List ℕ = flat (raw g) ++ row THEN 0 0 0 in
    both (flat (raw f)) (row LEAD-END 0 0 0 ++ rest) (named_by f) (named_by g) (tests_of f) (tests_of g)
    (leaves-formula f)
    (record-before rest (named_by g) (tests_of g) LEAD-END 0 0 0 (refl, refl)
    (after-formula g THEN (refl, refl) (leaves-formula g)))

-- ---- the tests

pub tests-are : (f : Formula) → tests_in (flat (raw f)) ≡ tests_of f
unfolding tests_in records
tests-are f =
    sym (ap tests_in (append-nil (flat (raw f)))) ∙ (leaves-formula f).tests [] ∙ append-nil (tests_of f)

-- ---- the marks, from none at all

no-mark : (b : Bool) → (b || false) ≡ b
no-mark true = refl
no-mark false = refl

marks-on : (f : Formula) (named : List ℕ) → marks (flat (raw f)) named ≡ (leaves-formula f).on named
unfolding marks records
marks-on f named =
    sym (ap (λ (l : List ℕ). marks l named) (append-nil (flat (raw f)))) ∙ (leaves-formula f).left [] named

pub named-long : (f : Formula) (m : ℕ) → length (marks (flat (raw f)) (replicate m 0)) ≡ m
named-long f m =
    ap length (marks-on f (replicate m 0)) ∙ (leaves-formula f).long (replicate m 0) ∙ length-replicate m 0

pub named-at : (f : Formula) (m j : ℕ) → j < m →
    named_by f j ≡ nonzero (number_at (marks (flat (raw f)) (replicate m 0)) j)
named-at f m j h =
    let inside : j < length {A = ℕ} (replicate m 0) = rw (length-replicate {A = ℕ} m 0) h in
    sym
    (ap (λ (l : List ℕ). nonzero (number_at l j)) (marks-on f (replicate m 0))
    ∙ (leaves-formula f).adds (replicate m 0) j inside
    ∙ ap (λ (x : ℕ). named_by f j || nonzero x) (get_or-replicate m j 0 0 h)
    ∙ no-mark (named_by f j))
