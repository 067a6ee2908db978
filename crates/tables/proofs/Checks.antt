-- Laws of the check: when an equation fits by its kind's row, when the tests of a table pass, and which fails first.
-- Assumes nothing.
use mathlib.Core.Path.{◌≡◌, refl}
use mathlib.Core.Bool.{Bool, true, false, cond, ◌&&◌}
use mathlib.Core.List.{List, [], ◌++◌}
use Prim.Native.Nat.{ℕ, ◌+◌, ◌*◌, ◌≤◌, ◌<◌}
use native.Mathlib.Omega.{arith}
use lib.Dec.{leb, ltb}
use lib.ListN.{length}
use borrow.Author.Tests.{le-ltb, lt-ltb, lt-leb, le-leb, leb-true}
use Rattle.lists.specs.Number.{number_at}
use Rattle.tables.specs.Table.{all, kind_at, equation_fits, operand_fits, shape_fits, shape_of}
use Rattle.limits.specs.Limits.{equation_limit}
use Rattle.tables.specs.Table.{closing_count, started_of, verdict_of, boolean_at, closes}
use Rattle.tables.specs.Table.{length_fits, equations_fit, Test, first_failed}
use Rattle.tables.specs.Table.{table_tests, checked}
use Rattle.tables.specs.Table.{Checked, passed}
use Rattle.tables.proofs.Tests.{and-true}
use Rattle.std.specs.Prelude.{None, Err}
use Rattle.limits.specs.declared.Refusal.{Refusal}
use Rattle.limits.specs.declared.Refusal.TheVariants.{BadEquation, EquationCount}

-- An equation whose kind has no row fits nowhere: no number is below 0.
pub no_row : (velocities : ℕ) (t : List ℕ) (n i : ℕ) → kind_at t i ≡ None
    → false ≡ equation_fits velocities t n i
unfolding shape_fits shape_of operand_fits
no_row velocities t n i h = rw (h, le-ltb (number_at t (4 * i + 1)) 0 (omega arith))

-- Where the first test passes, the others decide.
pub passed-one : (b : Bool) (x : Checked) (r : Refusal) → cond b x (Err r) ≡ passed → (b ≡ true) × (x ≡ passed)
passed-one true x r e = (refl, e)
passed-one false x r e = (cc, cc)

-- A table that passes its tests.
pub record Fitting (velocities : ℕ) (t : List ℕ) (n : ℕ) : Type 0 where
  pub closed : closing_count ≤ n
  pub few : n ≤ equation_limit
  pub whole : 4 * n ≤ length t
  pub equations : all (equation_fits velocities t n) n ≡ true

module _ (t : List ℕ) (n : ℕ) where
  -- How a table closes: not with fewer than two equations; else by the sorts of these two.
  pub no-closing : n < closing_count → false ≡ closes t n
  unfolding closes
  no-closing h = rw (lt-leb closing_count n h)

  pub closing-by : closing_count ≤ n → (a b : Bool) → boolean_at t (started_of n) ≡ a → boolean_at t (verdict_of n) ≡ b
      → (a && b) ≡ closes t n
  unfolding closes
  closing-by h a b e f = rw (le-leb closing_count n h, e, f)

module _ (velocities : ℕ) (t : List ℕ) (n : ℕ) where
  pub too_few : n ≡ 0 → Err EquationCount ≡ checked velocities t n
  unfolding checked length_fits
  too_few e = rw (le-ltb 0 n (omega arith))

  pub too_many : equation_limit < n → Err EquationCount ≡ checked velocities t n
  unfolding checked length_fits
  too_many h = rw (lt-ltb 0 n (omega arith), lt-leb n equation_limit h)

  pub too_short : 0 < n → n ≤ equation_limit → length t < 4 * n → Err EquationCount ≡ checked velocities t n
  unfolding checked length_fits
  too_short g h k = rw (lt-ltb 0 n g, le-leb n equation_limit h, lt-leb (4 * n) (length t) k)

  -- A table that is long enough, by whether its equations fit and whether it closes as it has to.
  pub long-enough : 0 < n → n ≤ equation_limit → 4 * n ≤ length t → (b l : Bool)
      → all (equation_fits velocities t n) n ≡ b → closes t n ≡ l
      → checked velocities t n ≡ cond (b && l) passed (Err BadEquation)
  unfolding checked length_fits equations_fit
  long-enough g h k b l e f =
      rw (lt-ltb 0 n g, le-leb n equation_limit h, le-leb (4 * n) (length t) k, e, f)

  fitting : length_fits t n ≡ true → equations_fit velocities t n ≡ true → Fitting velocities t n
  unfolding length_fits equations_fit closes
  fitting e f =
      let p = and-true (ltb 0 n) _ e in
      let q = and-true (leb n equation_limit) _ p.1 in
      let both = and-true (all (equation_fits velocities t n) n) _ f in
      record {
        closed = leb-true closing_count n (and-true (leb closing_count n) _ both.1).0;
        few = leb-true n equation_limit q.0;
        whole = leb-true (4 * n) (length t) q.1;
        equations = both.0;
      }

  -- A call whose tests pass has a fitting table, and passes what comes after the table's tests.
  pub passed-table : (xs : List Test) → first_failed (table_tests velocities t n ++ xs) ≡ passed
      → Fitting velocities t n × (first_failed xs ≡ passed)
  passed-table xs e =
      let p = passed-one (length_fits t n) _ EquationCount e in
      let q = passed-one (equations_fit velocities t n) _ BadEquation p.1 in
      (fitting p.0 q.0, q.1)

  pub checked-fitting : checked velocities t n ≡ passed → Fitting velocities t n
  unfolding checked
  checked-fitting e = (passed-table [] e).0

-- Where a table is refused, so is any call that is given it.
refused-two : (b d : Bool) (x : Checked) (r : Refusal) → cond b (cond d passed (Err BadEquation)) (Err EquationCount) ≡ Err r
    → cond b (cond d x (Err BadEquation)) (Err EquationCount) ≡ Err r
refused-two true true x r e = cc
refused-two true false x r e = e
refused-two false d x r e = e

pub refused-table : (velocities : ℕ) (t : List ℕ) (n : ℕ) (r : Refusal) (xs : List Test) → checked velocities t n ≡ Err r
    → first_failed (table_tests velocities t n ++ xs) ≡ Err r
unfolding checked
refused-table velocities t n r xs e = refused-two (length_fits t n) (equations_fit velocities t n) (first_failed xs) r e

-- Where it passes, both of its tests do.
pub passed-both : (velocities : ℕ) (t : List ℕ) (n : ℕ) → checked velocities t n ≡ passed
    → (length_fits t n ≡ true) × (equations_fit velocities t n ≡ true)
unfolding checked
passed-both velocities t n e =
    let p = passed-one (length_fits t n) _ EquationCount e in
    (p.0, (passed-one (equations_fit velocities t n) passed BadEquation p.1).0)

-- A check that fails does not pass.
pub failed-passed : {r : Refusal} → Err r ≡ passed → ⊥
failed-passed e = let z : ◌≡◌ {A = ℕ} 0 1 = cc in omega arith
