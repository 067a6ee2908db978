-- Intervals by their first tick b and their length d, last tick b ⊕ d: what the words of the interval meaning (`each`,
-- `tally`, `streak`, `any`) are on one tick more. Assumes nothing.
use mathlib.Core.Bool.{Bool, true, false, not, ◌&&◌, ◌||◌, cond, and-true, and_assoc, or_assoc, or-false}
use mathlib.Core.Path.{◌≡◌, refl, sym, ap, ◌∙◌}
use Prim.Native.Nat.{ℕ, zero, suc, ◌+◌, ◌-◌, ◌<◌}
use native.Mathlib.Nat.{add-suc, add-zero}
use native.Mathlib.Omega.{arith}
use lib.Dec.{eqb, ltb}
use borrow.Author.Tests.{lt-ltb, le-ltb, eq-eqb, ne_eqb}
use Rattle.formulas.specs.Meaning.{each, any, tally, streak}
use Rattle.scheme.specs.Scheme.{◌⊕◌}

-- ---- b ⊕ d

pub ⊕-add : (b d : ℕ) → b ⊕ d ≡ b + d
⊕-add b zero = sym (add-zero b)
⊕-add b (suc d) = ap suc (⊕-add b d) ∙ sym (add-suc b d)

pub suc-⊕ : (b d : ℕ) → suc b ⊕ d ≡ suc (b ⊕ d)
suc-⊕ b zero = refl
suc-⊕ b (suc d) = ap suc (suc-⊕ b d)

pub zero-⊕ : (d : ℕ) → 0 ⊕ d ≡ d
zero-⊕ zero = refl
zero-⊕ (suc d) = ap suc (zero-⊕ d)

-- The length of b to b ⊕ d.
pub span : (b d : ℕ) → (b ⊕ d) - b ≡ d
span b d = rw ⊕-add (omega arith)

-- The interval is longer than one tick: `held` asks it, and `point` asks the contrary.
abbrev pub longer : ℕ → Bool
longer zero = false
longer (suc d) = true

pub lt-longer : (b d : ℕ) → ltb b (b ⊕ d) ≡ longer d
lt-longer b zero = le-ltb b b (omega arith)
lt-longer b (suc d) = lt-ltb b (suc (b ⊕ d)) (rw ⊕-add (omega arith))

pub eq-longer : (b d : ℕ) → eqb b (b ⊕ d) ≡ not (longer d)
eq-longer b zero = eq-eqb b b refl
eq-longer b (suc d) = ne_eqb b (suc (b ⊕ d)) (rw ⊕-add (omega arith))

-- ---- one tick more

module _ (p : ℕ → Bool) where
  pub each_last : (b d : ℕ) → each p b (suc d) ≡ each p b d && p (b ⊕ d)
  each_last b zero = and-true (p b)
  each_last b (suc d) =
      rw (each_last (suc b) d, suc-⊕) (sym (and_assoc (p b) (each p (suc b) d) (p (suc (b ⊕ d)))))

  pub any_last : (b d : ℕ) → any p b (suc d) ≡ any p b d || p (b ⊕ d)
  any_last b zero = or-false (p b)
  any_last b (suc d) =
      rw (any_last (suc b) d, suc-⊕) (sym (or_assoc (p b) (any p (suc b) d) (p (suc (b ⊕ d)))))

  pub tally-last : (b d : ℕ) → tally p b (suc d) ≡ cond (p (b ⊕ d)) (suc (tally p b d)) (tally p b d)
  tally-last b zero = refl
  tally-last b (suc d) = rw (tally-last (suc b) d, suc-⊕) (swap (p b) (p (suc (b ⊕ d))) (tally p (suc b) d))
    where
      swap : (x y : Bool) (k : ℕ)
          → cond x (suc (cond y (suc k) k)) (cond y (suc k) k) ≡ cond y (suc (cond x (suc k) k)) (cond x (suc k) k)
      swap true true k = refl
      swap true false k = refl
      swap false true k = refl
      swap false false k = refl

  -- `streak` on one tick more is its own clause; on a single tick it is one or none.
  pub streak-single : (b : ℕ) → streak p b 0 ≡ cond (p b) 1 0
  streak-single zero = refl
  streak-single (suc b) = refl

  -- ---- `any` where at most one tick counts

  -- None has p.
  pub any_none : (b d : ℕ) → ((i : ℕ) → i < d → p (b ⊕ i) ≡ false) → any p b d ≡ false
  any_none b zero h = refl
  any_none b (suc d) h = rw (any_last b d, any_none b d (λ i g. h i (omega arith)), h d (omega arith))

  -- Only b ⊕ c may have p, and there are j more ticks after it.
  pub any-one : (b c j : ℕ) → ((i : ℕ) → i < c → p (b ⊕ i) ≡ false) → ((i : ℕ) → c < i → p (b ⊕ i) ≡ false)
      → any p b (suc (c ⊕ j)) ≡ p (b ⊕ c)
  any-one b c zero before later = rw (any_last b c, any_none b c before)
  any-one b c (suc j) before later =
      rw (any_last b (suc (c ⊕ j)), any-one b c j before later, later (suc (c ⊕ j)) (rw ⊕-add (omega arith)))
      (or-false (p (b ⊕ c)))
