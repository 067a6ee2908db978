-- The header of an observer: the named signals stand by rising number, each where the formula's equations look for it,
-- and the velocity tests after them fit. Assumes nothing.
use mathlib.Core.Bool.{Bool, true, false, ◌||◌, cond, and-eq-true_iff, false≢true}
use mathlib.Core.List.{List, ◌∷◌, ◌++◌}
use mathlib.Core.Path.{◌≡◌, refl, sym, subst}
use Prim.Native.Nat.{ℕ, zero, suc, ◌+◌, ◌≤◌, ◌<◌}
use native.Mathlib.Omega.{arith}
use lib.ListN.{length}
use borrow.Author.Tests.{eqb-true, ltb-true, lt-ltb}
use Rattle.lists.specs.Number.{number_at}
use Rattle.traces.specs.Compare.{op_number}
use Rattle.formulas.specs.Formula.{Prop, Formula}
use Rattle.formulas.specs.Formula.Prop.{constant, signal, velocity, neg_p, and_p, or_p}
use Rattle.formulas.specs.Formula.Formula.{test, len, count, lag, neg, and, or, then}
use Rattle.formulas.specs.Bounds.{bounded, num_bound}
use Rattle.formulas.specs.Raw.{raw_p, raw}
use Rattle.tables.specs.Kind.{SIGNAL}
use Rattle.tables.specs.Table.{kind_of, shape_of, shape_fits, operand_fits}
use Rattle.limits.specs.Limits.{comparison_count, signal_count}
use Rattle.scheme.specs.Scheme.{◌⊕◌}
use Rattle.tables.specs.Table.{equation}
use Rattle.scheme.specs.Emit.{place_after, named_by_p, named_by, signals-es, places, tests_p, tests_of}
use Rattle.scheme.proofs.Offsets.{suc-⊕}
use Rattle.scheme.proofs.Places.{after-later, Each, each-join}
use Rattle.scheme.proofs.Roles.{Fits}
use Rattle.scheme.proofs.Rows.{op-below}
use Rattle.tables.specs.declared.Equation.{Equation}

-- ---- the named signals among the m from j on

module _ (named : ℕ → Bool) where
  -- What holds of each equation at its place holds of signal j ⊕ i's at the flow that is looked up for it.
  pub signal-at : (R : ℕ → Equation → Type 0) (m j o i : ℕ) → Each R o (signals-es named j m) → i < m
      → named (j ⊕ i) ≡ true → R (number_at (places named j o m) i) (equation SIGNAL (j ⊕ i) 0 0)
  signal-at R zero j o i h l e = absurd (omega arith)
  signal-at R (suc m) j o zero h l e =
      (subst (λ (x : Bool). Each R o
      (cond x (equation SIGNAL j 0 0 ∷ signals-es named (suc j) m) (signals-es named (suc j) m)))
      e h).0
  signal-at R (suc m) j o (suc i) h l e =
      rw (← suc-⊕ j i)
      (signal-at R m (suc j) (cond (named j) (suc o) o) i (others (named j) h) (omega arith) (rw suc-⊕ e))
    where
      others : (x : Bool) → Each R o
          (cond x (equation SIGNAL j 0 0 ∷ signals-es named (suc j) m) (signals-es named (suc j) m))
          → Each R (cond x (suc o) o) (signals-es named (suc j) m)
      others true h = h.1
      others false h = h

  -- That flow stands before the place after the signals.
  pub signal-before : (m j o i : ℕ) → i < m → named (j ⊕ i) ≡ true
      → number_at (places named j o m) i < place_after o (signals-es named j m)
  signal-before zero j o i l e = absurd (omega arith)
  signal-before (suc m) j o zero l e =
      subst (λ (x : Bool). o < place_after o
      (cond x (equation SIGNAL j 0 0 ∷ signals-es named (suc j) m) (signals-es named (suc j) m)))
      (sym e) (after-later (signals-es named (suc j) m) (suc o))
  signal-before (suc m) j o (suc i) l e =
      others (named j) (λ o. signal-before m (suc j) o i (omega arith) (rw suc-⊕ e))
    where
      others : (x : Bool)
          → ((o : ℕ) → number_at (places named (suc j) o m) i < place_after o (signals-es named (suc j) m))
          → number_at (places named (suc j) (cond x (suc o) o) m) i
          < place_after o (cond x (equation SIGNAL j 0 0 ∷ signals-es named (suc j) m) (signals-es named (suc j) m))
      others true h = h (suc o)
      others false h = h o

  -- They fit,
  pub signals-fit : (velocities : ℕ) (t : List ℕ) (N m j o : ℕ) → j + m ≤ signal_count
      → Each (Fits velocities t N) o (signals-es named j m)
  unfolding kind_of shape_of shape_fits operand_fits
  signals-fit velocities t N zero j o h = tt
  signals-fit velocities t N (suc m) j o h =
      with_first (named j) (λ o. signals-fit velocities t N m (suc j) o (omega arith))
    where
      with_first : (x : Bool) → ((o : ℕ) → Each (Fits velocities t N) o (signals-es named (suc j) m))
          → Each (Fits velocities t N) o
          (cond x (equation SIGNAL j 0 0 ∷ signals-es named (suc j) m) (signals-es named (suc j) m))
      with_first true rest = (record { fits = rw (lt-ltb j signal_count (omega arith)) }, rest (suc o))
      with_first false rest = rest o

  -- and are at most m.
  pub signals-length : (m j : ℕ) → length (signals-es named j m) ≤ m
  signals-length zero j = omega arith
  signals-length (suc m) j = with_first (named j) (signals-length m (suc j))
    where
      with_first : (x : Bool) → length (signals-es named (suc j) m) ≤ m
          → length (cond x (equation SIGNAL j 0 0 ∷ signals-es named (suc j) m) (signals-es named (suc j) m)) ≤ suc m
      with_first true h = omega arith
      with_first false h = omega arith

-- ---- a formula of bounded numbers names signals 0 to 63 only

-- What follows from each of two follows from either.
either : (a b : Bool) {P : Type 0} → (a ≡ true → P) → (b ≡ true → P) → (a || b) ≡ true → P
either true b f g e = f refl
either false b f g e = g e

module _ (cap velocities j : ℕ) where
  prop-names : (p : Prop) → bounded cap velocities (raw_p p) ≡ true → named_by_p p j ≡ true → j < signal_count
  prop-names (constant c) b e = absurd (false≢true e)
  prop-names (signal i) b e = rw (eqb-true i j e) at (ltb-true i signal_count b)
  prop-names (velocity o n) b e = absurd (false≢true e)
  prop-names (neg_p p) b e = prop-names p b e
  prop-names (and_p p q) b e =
      let h = (and-eq-true_iff (bounded cap velocities (raw_p p)) (bounded cap velocities (raw_p q))).0 b in
      either (named_by_p p j) (named_by_p q j) (prop-names p h.0) (prop-names q h.1) e
  prop-names (or_p p q) b e =
      let h = (and-eq-true_iff (bounded cap velocities (raw_p p)) (bounded cap velocities (raw_p q))).0 b in
      either (named_by_p p j) (named_by_p q j) (prop-names p h.0) (prop-names q h.1) e

  pub names-below : (f : Formula) → bounded cap velocities (raw f) ≡ true → named_by f j ≡ true → j < signal_count
  names-below (test k p) b e = prop-names p b e
  names-below (len o n) b e = absurd (false≢true e)
  names-below (count k p o n) b e =
      prop-names p ((and-eq-true_iff (bounded cap velocities (raw_p p)) (num_bound cap velocities n)).0 b).0 e
  names-below (lag p n q) b e =
      let h = (and-eq-true_iff (bounded cap velocities (raw_p p)) _).0 b in
      let g = (and-eq-true_iff (num_bound cap velocities n) (bounded cap velocities (raw_p q))).0 h.1 in
      either (named_by_p p j) (named_by_p q j) (prop-names p h.0) (prop-names q g.1) e
  names-below (neg f) b e = names-below f b e
  names-below (and f g) b e =
      let h = (and-eq-true_iff (bounded cap velocities (raw f)) (bounded cap velocities (raw g))).0 b in
      either (named_by f j) (named_by g j) (names-below f h.0) (names-below g h.1) e
  names-below (or f g) b e =
      let h = (and-eq-true_iff (bounded cap velocities (raw f)) (bounded cap velocities (raw g))).0 b in
      either (named_by f j) (named_by g j) (names-below f h.0) (names-below g h.1) e
  names-below (then f g) b e =
      let h = (and-eq-true_iff (bounded cap velocities (raw f)) (bounded cap velocities (raw g))).0 b in
      either (named_by f j) (named_by g j) (names-below f h.0) (names-below g h.1) e

-- ---- and its tests fit, from any place o on

module _ (cap velocities : ℕ) (t : List ℕ) (N : ℕ) where
  -- The tests of two parts, one after the other.
  both-fit : (xs ys : List Equation) → ((o : ℕ) → Each (Fits velocities t N) o xs)
      → ((o : ℕ) → Each (Fits velocities t N) o ys) → (o : ℕ) → Each (Fits velocities t N) o (xs ++ ys)
  both-fit xs ys f g o = each-join (Fits velocities t N) xs ys o (f o) (g (place_after o xs))

  prop-tests-fit : (p : Prop) → bounded cap velocities (raw_p p) ≡ true → (o : ℕ)
      → Each (Fits velocities t N) o (tests_p p)
  unfolding kind_of shape_of shape_fits operand_fits
  prop-tests-fit (constant c) b o = tt
  prop-tests-fit (signal j) b o = tt
  prop-tests-fit (velocity op n) b o =
      (record { fits = rw (lt-ltb (op_number op) comparison_count (op-below op), b) }, tt)
  prop-tests-fit (neg_p p) b o = prop-tests-fit p b o
  prop-tests-fit (and_p p q) b o =
      let h = (and-eq-true_iff (bounded cap velocities (raw_p p)) (bounded cap velocities (raw_p q))).0 b in
      both-fit (tests_p p) (tests_p q) (prop-tests-fit p h.0) (prop-tests-fit q h.1) o
  prop-tests-fit (or_p p q) b o =
      let h = (and-eq-true_iff (bounded cap velocities (raw_p p)) (bounded cap velocities (raw_p q))).0 b in
      both-fit (tests_p p) (tests_p q) (prop-tests-fit p h.0) (prop-tests-fit q h.1) o

  pub tests-fit : (f : Formula) → bounded cap velocities (raw f) ≡ true → (o : ℕ)
      → Each (Fits velocities t N) o (tests_of f)
  tests-fit (test k p) b o = prop-tests-fit p b o
  tests-fit (len op n) b o = tt
  tests-fit (count k p op n) b o =
      prop-tests-fit p ((and-eq-true_iff (bounded cap velocities (raw_p p)) (num_bound cap velocities n)).0 b).0 o
  tests-fit (lag p n q) b o =
      let h = (and-eq-true_iff (bounded cap velocities (raw_p p)) _).0 b in
      let g = (and-eq-true_iff (num_bound cap velocities n) (bounded cap velocities (raw_p q))).0 h.1 in
      both-fit (tests_p p) (tests_p q) (prop-tests-fit p h.0) (prop-tests-fit q g.1) o
  tests-fit (neg f) b o = tests-fit f b o
  tests-fit (and f g) b o =
      let h = (and-eq-true_iff (bounded cap velocities (raw f)) (bounded cap velocities (raw g))).0 b in
      both-fit (tests_of f) (tests_of g) (tests-fit f h.0) (tests-fit g h.1) o
  tests-fit (or f g) b o =
      let h = (and-eq-true_iff (bounded cap velocities (raw f)) (bounded cap velocities (raw g))).0 b in
      both-fit (tests_of f) (tests_of g) (tests-fit f h.0) (tests-fit g h.1) o
  tests-fit (then f g) b o =
      let h = (and-eq-true_iff (bounded cap velocities (raw f)) (bounded cap velocities (raw g))).0 b in
      both-fit (tests_of f) (tests_of g) (tests-fit f h.0) (tests-fit g h.1) o
