-- How many equations an observer has, counted over the formula's tree: the rows of its nodes, and one more for each
-- signal and for each velocity test that stands in it. The header has one for each named signal, however often it
-- stands there, so it is a bound; Sizes.antt has a coarser one that needs only the number of records. Assumes nothing.
use mathlib.Core.Bool.{Bool, true, false, ◌||◌, cond}
use mathlib.Core.List.{List, ◌∷◌, ◌++◌}
use mathlib.Core.Path.{◌≡◌, refl}
use Prim.Native.Nat.{ℕ, zero, suc, ◌+◌, ◌≤◌, ◌<◌}
use native.Mathlib.Omega.{arith}
use lib.Dec.{eqb}
use lib.ListN.{length, length-append}
use borrow.Author.Tests.{eqb-true, ne_eqb}
use Rattle.formulas.specs.Formula.{Prop, Formula, Test, Count}
use Rattle.formulas.specs.Formula.Prop.{constant, signal, velocity, neg_p, and_p, or_p}
use Rattle.formulas.specs.Formula.Test.{begin, end, point, held, kept}
use Rattle.formulas.specs.Formula.Count.{sum, age}
use Rattle.formulas.specs.Formula.Formula.{test, len, count, lag, neg, and, or, then}
use Rattle.formulas.specs.Tree.{Tree}
use Rattle.formulas.specs.Raw.{raw_p, raw}
use Rattle.tables.specs.Kind.{SIGNAL}
use Rattle.tables.specs.Table.{equation}
use Rattle.limits.specs.Limits.{signal_count}
use Rattle.scheme.specs.Scheme.{Node, constant_node, signal_node, not_node, and_node, or_node, begin_node}
use Rattle.scheme.specs.Scheme.{end_node, point_node, held_node, kept_node, len_node, sum_node, age_node, run_node}
use Rattle.scheme.specs.Scheme.{fine_node, always_node, lead_end_node, then_node, velocity_node, whole_node}
use Rattle.scheme.specs.Emit.{place_after, emit_p, emit, named_by_p, named_by, flow_in, signals-es, body}
use Rattle.scheme.specs.Emit.{observer, start_flow, negated_flow, header_count, start-es, whole-es}
use Rattle.scheme.specs.Emit.{after_run, second_start, second_negated, second_place}
use Rattle.scheme.specs.Emit.{tests_p, tests_of, next_test_p, next_test, test_place, head_place}
use Rattle.tables.specs.declared.Equation.{Equation}

-- ---- the count

-- A node's equations.
abbrev pub row_count : Node → ℕ
row_count d = length d.rows

abbrev pub test_node : Test → Node
test_node begin = begin_node
test_node end = end_node
test_node point = point_node
test_node held = held_node
test_node kept = kept_node

abbrev pub count_node : Count → Node
count_node sum = sum_node
count_node age = age_node

-- The equations of a tree; one with `chop` or `exists` has none, since it has no formula.
abbrev pub equation_count : Tree → ℕ
equation_count (Tree.constant c) = row_count constant_node
equation_count (Tree.signal j) = row_count signal_node + 1
equation_count (Tree.velocity o n) = row_count velocity_node + velocity_node.tests
equation_count (Tree.neg t) = equation_count t + row_count not_node
equation_count (Tree.and a b) = equation_count a + equation_count b + row_count and_node
equation_count (Tree.or a b) = equation_count a + equation_count b + row_count or_node
equation_count (Tree.then a b) = equation_count a + equation_count b + (row_count lead_end_node + row_count then_node)
equation_count (Tree.chop a b) = 0
equation_count (Tree.exists j t) = 0
equation_count (Tree.test k p) = equation_count p + row_count (test_node k)
equation_count (Tree.len o n) = row_count len_node
equation_count (Tree.count k p o n) = equation_count p + row_count (count_node k)
equation_count (Tree.lag p n q) =
    equation_count p + equation_count q + (row_count run_node + row_count fine_node + row_count always_node)

-- ---- the named signals among the m from j on

-- None is named.
none_named : (m j : ℕ) → length (signals-es (λ i. false) j m) ≡ 0
none_named zero j = refl
none_named (suc m) j = none_named m (suc j)

-- The named ones of two parts are at most those of the one and those of the other.
both-named : (x y : ℕ → Bool) (m j : ℕ)
    → length (signals-es (λ i. x i || y i) j m) ≤ length (signals-es x j m) + length (signals-es y j m)
both-named x y zero j = omega arith
both-named x y (suc m) j = with_first (x j) (y j) (both-named x y m (suc j))
  where
    first : (ℕ → Bool) → Bool → List Equation
    first z b = cond b (equation SIGNAL j 0 0 ∷ signals-es z (suc j) m) (signals-es z (suc j) m)

    with_first : (a b : Bool)
        → length (signals-es (λ i. x i || y i) (suc j) m)
        ≤ length (signals-es x (suc j) m) + length (signals-es y (suc j) m)
        → length (first (λ i. x i || y i) (a || b)) ≤ length (first x a) + length (first y b)
    with_first true true h = omega arith
    with_first true false h = omega arith
    with_first false true h = omega arith
    with_first false false h = omega arith

-- One signal alone is named once, and not after its number.
past-named : (i m j : ℕ) → i < j → length (signals-es (eqb i) j m) ≡ 0
past-named i zero j l = refl
past-named i (suc m) j l = rw (ne_eqb i j (λ e. omega arith)) (past-named i m (suc j) (omega arith))

one-named : (i m j : ℕ) → length (signals-es (eqb i) j m) ≤ 1
one-named i zero j = omega arith
one-named i (suc m) j = with_first (eqb i j) refl (one-named i m (suc j))
  where
    with_first : (b : Bool) → eqb i j ≡ b → length (signals-es (eqb i) (suc j) m) ≤ 1
        → length (cond b (equation SIGNAL j 0 0 ∷ signals-es (eqb i) (suc j) m) (signals-es (eqb i) (suc j) m)) ≤ 1
    with_first true e h = let same = eqb-true i j e in omega (arith, past-named i m (suc j) (omega arith))
    with_first false e h = h

-- ---- a formula's equations, with its tests and those of the signals that it names among the m from j on

module _ (flow_of : ℕ → ℕ) (m j : ℕ) where
  abbrev named_p : Prop → ℕ
  named_p p = length (signals-es (named_by_p p) j m)

  abbrev named : Formula → ℕ
  named f = length (signals-es (named_by f) j m)

  prop-count : (p : Prop) (u o : ℕ)
      → named_p p + (length (tests_p p) + length (emit_p flow_of p u o).es) ≤ equation_count (raw_p p)
  prop-count (constant c) u o = omega (arith, none_named m j)
  prop-count (signal i) u o = omega (arith, one-named i m j)
  prop-count (velocity op n) u o = omega (arith, none_named m j)
  prop-count (neg_p p) u o = simp length-append (omega (arith, prop-count p u o))
  prop-count (and_p p q) u o =
      simp length-append (omega (
        arith,
        both-named (named_by_p p) (named_by_p q) m j,
        prop-count p u o,
        prop-count q (next_test_p u p) (place_after o (emit_p flow_of p u o).es),
      ))
  prop-count (or_p p q) u o =
      simp length-append (omega (
        arith,
        both-named (named_by_p p) (named_by_p q) m j,
        prop-count p u o,
        prop-count q (next_test_p u p) (place_after o (emit_p flow_of p u o).es),
      ))

  formula-count : (f : Formula) (s n u o : ℕ)
      → named f + (length (tests_of f) + length (emit flow_of f s n u o).es) ≤ equation_count (raw f)
  formula-count (test begin p) s n u o = simp length-append (omega (arith, prop-count p u o))
  formula-count (test end p) s n u o = omega (arith, prop-count p u o)
  formula-count (test point p) s n u o = simp length-append (omega (arith, prop-count p u o))
  formula-count (test held p) s n u o = simp length-append (omega (arith, prop-count p u o))
  formula-count (test kept p) s n u o = simp length-append (omega (arith, prop-count p u o))
  formula-count (len op x) s n u o = omega (arith, none_named m j)
  formula-count (count sum p op x) s n u o = simp length-append (omega (arith, prop-count p u o))
  formula-count (count age p op x) s n u o = simp length-append (omega (arith, prop-count p u o))
  formula-count (lag p x q) s n u o =
      let o' : ℕ = place_after o (emit_p flow_of p u o).es in
      simp length-append (omega (
        arith,
        both-named (named_by_p p) (named_by_p q) m j,
        prop-count p u o,
        prop-count q (next_test_p u p) (after_run o'),
      ))
  formula-count (neg f) s n u o = simp length-append (omega (arith, formula-count f s n u o))
  formula-count (and f g) s n u o =
      simp length-append (omega (
        arith,
        both-named (named_by f) (named_by g) m j,
        formula-count f s n u o,
        formula-count g s n (next_test u f) (place_after o (emit flow_of f s n u o).es),
      ))
  formula-count (or f g) s n u o =
      simp length-append (omega (
        arith,
        both-named (named_by f) (named_by g) m j,
        formula-count f s n u o,
        formula-count g s n (next_test u f) (place_after o (emit flow_of f s n u o).es),
      ))
  formula-count (then l f) s n u o =
      let o' : ℕ = place_after o (emit flow_of l s n u o).es in
      simp length-append (omega (
        arith,
        both-named (named_by l) (named_by f) m j,
        formula-count l s n u o,
        formula-count f (second_start o') (second_negated o') (next_test u l) (second_place o'),
      ))

-- ---- the observer

-- The start flow and its negation, the named signals among the first m, the formula's tests, its other equations and
-- the whole rule's.
parts-count : (named : ℕ → Bool) (m : ℕ) (tests own whole : List Equation) (c : ℕ)
    → length (signals-es named 0 m) + (length tests + length own) ≤ c
    → length ((start-es ++ signals-es named 0 m) ++ (tests ++ (own ++ whole))) ≤ header_count + c + length whole
parts-count named m tests own whole c h = simp length-append (omega arith)

pub observer-count : (f : Formula) → length (observer f) ≤ header_count + equation_count (raw f) + row_count whole_node
observer-count f =
    let whole : List Equation = whole-es start_flow (place_after (head_place f) (body f).es) (body f).out in
    parts-count (named_by f) signal_count (tests_of f) (body f).es whole (equation_count (raw f))
    (formula-count (flow_in (named_by f)) signal_count 0 f start_flow negated_flow (test_place f) (head_place f))
