-- What a word's class says of its number, and what the number says of what the word stands for. Assumes nothing.
use mathlib.Core.Bool.{true, false, ◌||◌}
use mathlib.Core.Path.{◌≡◌, refl, sym, subst, ◌∙◌}
use Prim.Native.Nat.{ℕ, zero, suc, ◌+◌, ◌-◌, ◌≤◌}
use native.Mathlib.Omega.{arith}
use lib.Dec.{eqb, leb}
use borrow.Author.Tests.{ne_eqb}
use Rattle.traces.specs.Trace.{truth}
use Rattle.traces.specs.Compare.{op_number}
use Rattle.traces.proofs.Laws.{number-op, truth-nonzero}
use Rattle.formulas.specs.Tree.{upper, lead_test, lead_count}
use Rattle.formulas.specs.Arena.{test_number, count_number}
use Rattle.words.specs.Word.{LE, LT, GE, BEGIN, KEPT, SUM, AGE, LITERAL, is_op, is_bit, is_test, is_count}
use Rattle.grammar.specs.Grammar.{bit_word, op_word, test_word, count_word}
use Rattle.grammar.proofs.Position.{within-high, op-pos, test-pos, count-pos}

-- ---- the numbers of a class

-- The greatest words of the classes; `Position` has the least.
op-high : (w : ℕ) → is_op w ≡ true → w ≤ GE
unfolding is_op
op-high w e = within-high LE GE w e

bit_high : (w : ℕ) → is_bit w ≡ true → w ≤ LITERAL + 1
unfolding is_bit
bit_high w e = within-high LITERAL (LITERAL + 1) w e

pub test-high : (w : ℕ) → is_test w ≡ true → w ≤ KEPT
unfolding is_test
test-high w e = within-high BEGIN KEPT w e

pub count-high : (w : ℕ) → is_count w ≡ true → w ≤ AGE
unfolding is_count
count-high w e = within-high SUM AGE w e

-- ---- what it stands for, from its place in the class

-- What holds of each of five words holds of all from the first to the last;
five : (P : ℕ → Type 0) (lo : ℕ) → P lo → P (lo + 1) → P (lo + 2) → P (lo + 3) → P (lo + 4) →
    (w : ℕ) → lo ≤ w → w ≤ lo + 4 → P w
five P lo p₀ p₁ p₂ p₃ p₄ w l h = go (w - lo) refl
  where
    go : (d : ℕ) → w - lo ≡ d → P w
    go zero e = let q : lo ≡ w = omega arith in subst P q p₀
    go (suc zero) e = let q : lo + 1 ≡ w = omega arith in subst P q p₁
    go (suc (suc zero)) e = let q : lo + 2 ≡ w = omega arith in subst P q p₂
    go (suc (suc (suc zero))) e = let q : lo + 3 ≡ w = omega arith in subst P q p₃
    go (suc (suc (suc (suc zero)))) e = let q : lo + 4 ≡ w = omega arith in subst P q p₄
    go (suc (suc (suc (suc (suc d))))) e = absurd (omega arith)

-- likewise of two.
two : (P : ℕ → Type 0) (lo : ℕ) → P lo → P (lo + 1) → (w : ℕ) → lo ≤ w → w ≤ lo + 1 → P w
two P lo p₀ p₁ w l h = go (w - lo) refl
  where
    go : (d : ℕ) → w - lo ≡ d → P w
    go zero e = let q : lo ≡ w = omega arith in subst P q p₀
    go (suc zero) e = let q : lo + 1 ≡ w = omega arith in subst P q p₁
    go (suc (suc d)) e = absurd (omega arith)

-- The numbers of a comparison, a bit, a test and a count in the arena.
pub op-number : (w : ℕ) → is_op w ≡ true → op_number (op_word w) ≡ w - LE
op-number w e = let h = op-high w e in number-op (w - LE) (omega arith)

pub bit-truth : (w : ℕ) → is_bit w ≡ true → truth (bit_word w) ≡ w - LITERAL
bit-truth w e = let h = bit_high w e in truth-nonzero (w - LITERAL) (omega arith)

pub test-number : (w : ℕ) → is_test w ≡ true → test_number (test_word w) ≡ w - BEGIN
test-number w e =
    five (λ x. test_number (test_word x) ≡ x - BEGIN) BEGIN refl refl refl refl refl w (test-pos w e) (test-high w e)

pub count-number : (w : ℕ) → is_count w ≡ true → count_number (count_word w) ≡ w - SUM
count-number w e = two (λ x. count_number (count_word x) ≡ x - SUM) SUM refl refl w (count-pos w e) (count-high w e)

-- SPEC 3.9: the comparisons of a lead are those up to `<`.
pub op_upper : (w : ℕ) → is_op w ≡ true → leb w LT ≡ upper (op_word w)
op_upper w e = five (λ x. leb x LT ≡ upper (op_word x)) LE refl refl refl refl refl w (op-pos w e) (op-high w e)

-- The tests of a lead are the first and the last of them,
pub test_lead : (w : ℕ) → is_test w ≡ true → (eqb w BEGIN || eqb w KEPT) ≡ lead_test (test_word w)
test_lead w e =
    five (λ x. (eqb x BEGIN || eqb x KEPT) ≡ lead_test (test_word x)) BEGIN refl refl refl refl refl
    w (test-pos w e) (test-high w e)

pub no_lead_test : (w : ℕ) → is_test w ≡ true → (w ≡ BEGIN → ⊥) → (w ≡ KEPT → ⊥) → lead_test (test_word w) ≡ false
no_lead_test w e b k = sym (test_lead w e) ∙ simp (ne_eqb w BEGIN b, ne_eqb w KEPT k)

-- and of the counts it is the first.
pub count_lead : (w : ℕ) → is_count w ≡ true → eqb w SUM ≡ lead_count (count_word w)
count_lead w e = two (λ x. eqb x SUM ≡ lead_count (count_word x)) SUM refl refl w (count-pos w e) (count-high w e)
