-- The text of a table determines it. Assumes nothing.
use mathlib.Core.Path.{◌≡◌, refl, ◌∙◌, sym, ap, subst}
use mathlib.Core.Bool.{true}
use mathlib.Core.List.{List, [], ◌++◌, append_assoc, append-nil}
use mathlib.Core.Logic.{⊎_elim}
use Prim.Native.Nat.{ℕ, zero, suc, ◌+◌, ◌*◌, ◌/◌, ◌%◌, ◌≤◌, ◌<◌}
use native.Mathlib.Omega.{arith}
use native.Mathlib.Nat.{add-zero, zero-add, eq-or-lt_of_le}
use lib.Dec.{ltb}
use lib.ListN.{length, take}
use lib.Seq.{get_or-take, length-take-le, ext_get_or}
use borrow.Author.Tests.{ltb-true}
use Rattle.lists.specs.Text.{bytes}
use Rattle.lists.specs.Decimal.{is_digit}
use Rattle.lists.specs.Number.{number_at}
use Rattle.tables.specs.Table.{all, equation_at, kind_of, kind_at, shape_of, is_flow}
use Rattle.tables.specs.Table.{operand_fits, shape_fits, equation_fits, equations_fit, checked}
use Rattle.tables.specs.Table.{started_of, verdict_of, closes}
use Rattle.limits.specs.Limits.{equation_limit, literal_count, last_literal}
use Rattle.tables.specs.declared.Sort.{Sort}
use Rattle.tables.specs.declared.Shape.{Shape}
use Rattle.tables.specs.declared.Operand.{Operand}
use Rattle.tables.specs.declared.Operand.TheVariants.{Unused, Earlier, Anywhere, Below, Velocity}
use Rattle.tables.proofs.Tests.{and-true, all-at, all_of}
use Rattle.tables.proofs.Checks.{checked-fitting, passed-both, long-enough}
use Rattle.lustre.specs.Numerals.{number_text}
use Rattle.lustre.specs.Text.{line_rest, line_text, lines, foot, text_of}
use Rattle.lustre.specs.Form.{Plain, PlainTable, NoLine}
use Rattle.lustre.proofs.Numerals.{same_number_lem}
use Rattle.lustre.proofs.Forms.{fitting-plain, one_end}
use Rattle.std.specs.Prelude.{Ok}
use Rattle.tables.specs.declared.Equation.{Equation}

-- Every equation of a well-formed table has a form, if velocities are literals.
pub well-plain : (velocities : ℕ) (t : List ℕ) (n : ℕ) → velocities ≤ literal_count → checked velocities t n ≡ Ok tt
    → PlainTable t n
well-plain velocities t n v e =
    let w = checked-fitting velocities t n e in
    record {
      closed = w.closed;
      few = w.few;
      plain = λ j h.
          fitting-plain velocities t n j (equation_at t j) v w.few (omega (arith, w.few))
          (all-at (equation_fits velocities t n) n w.equations j h);
    }

-- A line begins with `f`, its number and `=`.
line-shape : (i : ℕ) (e : Equation) (l : List ℕ)
    → line_text i e ++ l ≡ bytes "f" ++ (number_text i ++ (bytes "=" ++ (line_rest e ++ l)))
unfolding line_text
line-shape i e l = rw (append_assoc, append_assoc)

-- Two lines with the same number at the front of one text are of the same equation.
one_line : (i : ℕ) (e e' : Equation) (l r : List ℕ) → i ≤ last_literal → Plain e → Plain e'
    → line_text i e ++ l ≡ line_text i e' ++ r → (e ≡ e') × (l ≡ r)
unfolding is_digit
one_line i e e' l r h w w' q =
    let a = sym (line-shape i e l) ∙ q ∙ line-shape i e' r in
    let b : number_text i ++ (bytes "=" ++ (line_rest e ++ l))
    ≡ number_text i ++ (bytes "=" ++ (line_rest e' ++ r)) = cc in
    let c = (same_number_lem last_literal i i _ _ h h refl refl b).1 in
    one_end e e' l r w w' (cc)

-- No line stands where the last lines do.
pub foot-stops : (n m : ℕ) → NoLine m (foot n)
unfolding foot line_text
foot-stops n m e r w h = let z : ◌≡◌ {A = ℕ} 119 102 = cc in omega arith

-- The lines of k equations from i on.
unfoldable pub lines_from : List ℕ → ℕ → ℕ → List ℕ
lines_from t i zero = []
lines_from t i (suc k) = line_text i (equation_at t i) ++ lines_from t (suc i) k

lines-from : (t : List ℕ) (i k : ℕ) → lines t i ++ lines_from t i k ≡ lines t (i + k)
unfolding lines lines_from
lines-from t i zero = rw (append-nil, add-zero)
lines-from t i (suc k) =
    let z : suc i + k ≡ i + suc k = omega arith in
    sym (append_assoc (lines t i) (line_text i (equation_at t i)) (lines_from t (suc i) k))
    ∙ lines-from t (suc i) k
    ∙ ap (lines t) z

all_lines : (t : List ℕ) (n : ℕ) → lines t n ≡ lines_from t 0 n
unfolding lines
all_lines t n = ap (lines t) (sym (zero-add n)) ∙ sym (lines-from t 0 n)

-- Lines of t and then x, lines of u and then y, where no further line stands in x or y.
module _ (t u : List ℕ) (n m : ℕ) (x y : List ℕ) (few : n ≤ equation_limit) (few' : m ≤ equation_limit)
    (plain : (j : ℕ) → j < n → Plain (equation_at t j)) (plain' : (j : ℕ) → j < m → Plain (equation_at u j))
    (stops : n < m → NoLine n x) (stops' : m < n → NoLine m y) where
  from : (k l i : ℕ) → i + k ≡ n → i + l ≡ m → lines_from t i k ++ x ≡ lines_from u i l ++ y
      → (k ≡ l) × (x ≡ y) × ((j : ℕ) → i ≤ j → j < i + k → equation_at t j ≡ equation_at u j)
  unfolding lines_from
  from zero zero i p q e = (refl, e, λ j h g. absurd (omega arith))
  from zero (suc l) i p q e =
      let z : i ≡ n = omega arith in
      let a : x ≡ line_text i (equation_at u i) ++ (lines_from u (suc i) l ++ y) =
      e ∙ append_assoc (line_text i (equation_at u i)) (lines_from u (suc i) l) y in
      absurd
      (stops (omega arith) (equation_at u i) (lines_from u (suc i) l ++ y) (plain' i (omega arith)) (rw (← z) a))
  from (suc k) zero i p q e =
      let z : i ≡ m = omega arith in
      let a : y ≡ line_text i (equation_at t i) ++ (lines_from t (suc i) k ++ x) =
      sym e ∙ append_assoc (line_text i (equation_at t i)) (lines_from t (suc i) k) x in
      absurd
      (stops' (omega arith) (equation_at t i) (lines_from t (suc i) k ++ x) (plain i (omega arith)) (rw (← z) a))
  from (suc k) (suc l) i p q e =
      let o = one_line i (equation_at t i) (equation_at u i) (lines_from t (suc i) k ++ x) (lines_from u (suc i) l ++ y)
      (omega arith) (plain i (omega arith)) (plain' i (omega arith))
      (sym (append_assoc (line_text i (equation_at t i)) (lines_from t (suc i) k) x) ∙ e
      ∙ append_assoc (line_text i (equation_at u i)) (lines_from u (suc i) l) y) in
      let r = from k l (suc i) (omega arith) (omega arith) o.1 in
      (ap suc r.0, r.1, λ j h g. ⊎_elim (λ w. rw (← w) o.0) (λ w. r.2 j w (omega arith)) (eq-or-lt_of_le h))

  -- They are equally many, of the same equations, and x is y.
  pub same_lines : lines t n ++ x ≡ lines u m ++ y
      → (n ≡ m) × (x ≡ y) × ((j : ℕ) → j < n → equation_at t j ≡ equation_at u j)
  same_lines e =
      let r = from n m 0 (omega arith) (omega arith) (rw (← all_lines t n, ← all_lines u m) e) in
      (r.0, r.1, λ j h. r.2 j (omega arith) (omega arith))

-- What follows `let` in the text.
pub after-let : (t : List ℕ) (n : ℕ) → text_of t n ≡ bytes "let\n" ++ (lines t n ++ foot n)
unfolding text_of
after-let t n = refl

-- Two tables with the same text have equally many equations, and the same ones.
pub same-equations : {t u : List ℕ} {n m : ℕ} → PlainTable t n → PlainTable u m → text_of t n ≡ text_of u m
    → (n ≡ m) × ((j : ℕ) → j < n → equation_at t j ≡ equation_at u j)
same-equations {t} {u} {n} {m} w v e =
    let a = sym (after-let t n) ∙ e ∙ after-let u m in
    let b : lines t n ++ foot n ≡ lines u m ++ foot m = cc in
    let r = same_lines t u n m (foot n) (foot m) w.few v.few w.plain v.plain (λ h. foot-stops n n)
    (λ h. foot-stops m m) b in
    (r.0, r.2)

-- Tables with the same n equations.
module _ (t u : List ℕ) (n : ℕ) (same : (j : ℕ) → j < n → equation_at t j ≡ equation_at u j) where
  at_place : (j : ℕ) → j < n → (r : ℕ) → r < 4 → number_at t (4 * j + r) ≡ number_at u (4 * j + r)
  at_place j h zero g = rw (add-zero (4 * j)) (ap (λ (e : Equation). e.kind) (same j h))
  at_place j h (suc zero) g = ap (λ (e : Equation). e.a) (same j h)
  at_place j h (suc (suc zero)) g = ap (λ (e : Equation). e.b) (same j h)
  at_place j h (suc (suc (suc zero))) g = ap (λ (e : Equation). e.c) (same j h)
  at_place j h (suc (suc (suc (suc r)))) g = absurd (omega arith)

  numbers-same : (x : ℕ) → x < 4 * n → number_at t x ≡ number_at u x
  numbers-same x h =
      let z : 4 * (x / 4) + x % 4 ≡ x = omega arith in
      rw z at (at_place (x / 4) (omega arith) (x % 4) (omega arith))

  -- The same first 4 n numbers,
  pub same_numbers : 4 * n ≤ length t → 4 * n ≤ length u → take (4 * n) t ≡ take (4 * n) u
  same_numbers h g =
      let a : length (take (4 * n) t) ≡ 4 * n = length-take-le (4 * n) t h in
      let b : length (take (4 * n) u) ≡ 4 * n = length-take-le (4 * n) u g in
      ext_get_or 0 (take (4 * n) t) (take (4 * n) u) (a ∙ sym b) (λ i l.
      let k : i < 4 * n = omega arith in
      get_or-take (4 * n) t i 0 k ∙ numbers-same i k ∙ sym (get_or-take (4 * n) u i 0 k))

  -- the same text,
  pub lines_same : (i : ℕ) → i ≤ n → lines t i ≡ lines u i
  unfolding lines
  lines_same zero h = refl
  lines_same (suc i) h = rw (lines_same i (omega arith), same i (omega arith))

  pub same_text : text_of t n ≡ text_of u n
  unfolding text_of
  same_text = rw (lines_same n (omega arith))

  kind-same : (x : ℕ) → x < n → kind_at t x ≡ kind_at u x
  kind-same x h = ap (λ (e : Equation). kind_of e.kind) (same x h)

  flow-same : (m : ℕ) (s : Sort) (x : ℕ) → m ≤ n → is_flow t m s x ≡ true → is_flow u m s x ≡ true
  unfolding is_flow
  flow-same m s x h e =
      let p = and-true (ltb x m) _ e in
      let l = ltb-true x m p.0 in
      rw (p.0, ← kind-same x (omega arith)) p.1

-- and the same check, if there is room for them.
module _ (velocities : ℕ) (t u : List ℕ) (n : ℕ) (same : (j : ℕ) → j < n → equation_at t j ≡ equation_at u j) where
  operand_same : (i : ℕ) (o : Operand) (x : ℕ) → i ≤ n → operand_fits velocities t n i o x ≡ true
      → operand_fits velocities u n i o x ≡ true
  unfolding operand_fits
  operand_same i Unused x h e = e
  operand_same i (Earlier s) x h e = flow-same t u n same i s x h e
  operand_same i (Anywhere s) x h e = flow-same t u n same n s x (omega arith) e
  operand_same i (Below m) x h e = e
  operand_same i Velocity x h e = e

  shape_same : (i : ℕ) (s : Shape) (e : Equation) → i ≤ n → shape_fits velocities t n i s e ≡ true
      → shape_fits velocities u n i s e ≡ true
  unfolding shape_fits
  shape_same i s e h f =
      let p = and-true (operand_fits velocities t n i s.a e.a) _ f in
      let q = and-true (operand_fits velocities t n i s.b e.b) _ p.1 in
      rw (operand_same i s.a e.a h p.0, operand_same i s.b e.b h q.0)
      (operand_same i s.c e.c h q.1)

  equation-same : (i : ℕ) → i < n → equation_fits velocities t n i ≡ true → equation_fits velocities u n i ≡ true
  equation-same i h f =
      subst (λ (e : Equation). shape_fits velocities u n i (shape_of (kind_of e.kind)) e ≡ true) (same i h)
      (shape_same i (shape_of (kind_at t i)) (equation_at t i) (omega arith) f)

  pub same_check : 4 * n ≤ length u → checked velocities t n ≡ Ok tt → checked velocities u n ≡ Ok tt
  unfolding equations_fit closes
  same_check l e =
      let w = checked-fitting velocities t n e in
      let p = and-true (all (equation_fits velocities t n) n) _ (passed-both velocities t n e).1 in
      long-enough velocities u n (omega (arith, w.closed)) w.few l true true
      (all_of (equation_fits velocities u n) n (λ i h.
      equation-same i h (all-at (equation_fits velocities t n) n p.0 i h)))
      (rw (
        ← kind-same t u n same (started_of n) (omega (arith, w.closed)),
        ← kind-same t u n same (verdict_of n) (omega (arith, w.closed)),
      ) p.1)
