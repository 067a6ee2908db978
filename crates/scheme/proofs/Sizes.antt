-- How many equations an observer has: for each record of the formula's tree at most as many as the widest node has,
-- 66 before and 4 after them. A formula of at most `record_limit` records has an observer of at most `equation_limit`
-- equations, which is what a table needs to be well formed; Counts.antt counts closer. Assumes nothing.
use mathlib.Core.Bool.{Bool}
use mathlib.Core.List.{List, ◌++◌}
use Prim.Native.Nat.{ℕ, ◌+◌, ◌*◌, ◌≤◌}
use native.Mathlib.Nat.{le_trans}
use native.Mathlib.Omega.{arith}
use lib.ListN.{length, length-append}
use Rattle.formulas.specs.Formula.{Prop, Formula}
use Rattle.formulas.specs.Formula.Prop.{constant, signal, velocity, neg_p, and_p, or_p}
use Rattle.formulas.specs.Formula.Test.{begin, end, point, held, kept}
use Rattle.formulas.specs.Formula.Count.{sum, age}
use Rattle.formulas.specs.Formula.Formula.{test, len, count, lag, neg, and, or, then}
use Rattle.formulas.specs.Arena.{flat}
use Rattle.formulas.specs.Raw.{raw_p, raw}
use Rattle.limits.specs.Limits.{record_limit, arena_limit, equation_limit, signal_count}
use Rattle.scheme.specs.Scheme.{◌⊕◌, widest}
use Rattle.scheme.specs.Emit.{place_after, emit_p, emit, named_by, flow_in, signals-es, header, whole-es, body}
use Rattle.scheme.specs.Emit.{observer, start_flow, negated_flow, header_count, start-es, after_run, tests_p, tests_of}
use Rattle.scheme.specs.Emit.{next_test_p, next_test, test_place, head_place}
use Rattle.scheme.proofs.Header.{signals-length}
use Rattle.tables.specs.declared.Equation.{Equation}

module _ (flow_of : ℕ → ℕ) where
  -- One equation for each record of a proposition but a signal's: a test's stands in the table's head.
  prop-size : (p : Prop) (u o : ℕ)
      → 4 * (length (tests_p p) + length (emit_p flow_of p u o).es) ≤ length (flat (raw_p p))
  prop-size (constant c) u o = omega arith
  prop-size (signal j) u o = omega arith
  prop-size (velocity op n) u o = omega arith
  prop-size (neg_p p) u o = simp length-append (omega (arith, prop-size p u o))
  prop-size (and_p p q) u o =
      let o' : ℕ = place_after o (emit_p flow_of p u o).es in
      simp length-append (omega (arith, prop-size p u o, prop-size q (next_test_p u p) o'))
  prop-size (or_p p q) u o =
      let o' : ℕ = place_after o (emit_p flow_of p u o).es in
      simp length-append (omega (arith, prop-size p u o, prop-size q (next_test_p u p) o'))

  size : (f : Formula) (s n u o : ℕ)
      → 4 * (length (tests_of f) + length (emit flow_of f s n u o).es) ≤ widest * length (flat (raw f))
  size (test begin p) s n u o = simp length-append (omega (arith, prop-size p u o))
  size (test end p) s n u o = simp length-append (omega (arith, prop-size p u o))
  size (test point p) s n u o = simp length-append (omega (arith, prop-size p u o))
  size (test held p) s n u o = simp length-append (omega (arith, prop-size p u o))
  size (test kept p) s n u o = simp length-append (omega (arith, prop-size p u o))
  size (len op x) s n u o = omega arith
  size (count sum p op x) s n u o = simp length-append (omega (arith, prop-size p u o))
  size (count age p op x) s n u o = simp length-append (omega (arith, prop-size p u o))
  size (lag p x q) s n u o =
      let o' : ℕ = place_after o (emit_p flow_of p u o).es in
      simp length-append (omega (arith, prop-size p u o, prop-size q (next_test_p u p) (after_run o')))
  size (neg f) s n u o = simp length-append (omega (arith, size f s n u o))
  size (and f g) s n u o =
      let o' : ℕ = place_after o (emit flow_of f s n u o).es in
      simp length-append (omega (arith, size f s n u o, size g s n (next_test u f) o'))
  size (or f g) s n u o =
      let o' : ℕ = place_after o (emit flow_of f s n u o).es in
      simp length-append (omega (arith, size f s n u o, size g s n (next_test u f) o'))
  size (then l f) s n u o =
      let o' : ℕ = place_after o (emit flow_of l s n u o).es in
      simp length-append (omega (arith, size l s n u o, size f (o' ⊕ 3) (o' ⊕ 4) (next_test u l) (o' ⊕ 5)))

-- The header of an observer, and its four parts together.
header-size : (named : ℕ → Bool) (m : ℕ) → length (start-es ++ signals-es named 0 m) ≤ m + header_count
header-size named m = omega (arith, signals-length named m 0)

four-size : (xs ts ys zs : List Equation) (a b c : ℕ) → length xs ≤ a → length ts + length ys ≤ b → length zs ≤ c
    → length (xs ++ (ts ++ (ys ++ zs))) ≤ a + b + c
four-size xs ts ys zs a b c p q r = simp length-append (omega arith)

-- The most equations of a formula's own, its tests among them.
abbrev body_most : ℕ
body_most = widest * record_limit

body-size : (k m : ℕ) → 4 * k ≤ widest * m → m ≤ arena_limit → k ≤ body_most
body-size k m g h = omega arith

pub observer-size : (f : Formula) → length (flat (raw f)) ≤ arena_limit → length (observer f) ≤ equation_limit
observer-size f h =
    let own = size (flow_in (named_by f)) f start_flow negated_flow (test_place f) (head_place f) in
    let few = body-size (length (tests_of f) + length (body f).es) (length (flat (raw f))) own h in
    let end : List Equation = whole-es start_flow (place_after (head_place f) (body f).es) (body f).out in
    let all = four-size (header (named_by f)) (tests_of f) (body f).es end
    (signal_count + header_count) body_most 4
    (header-size (named_by f) signal_count) few (omega arith) in
    le_trans all (omega arith)
