-- Laws of tests: both of two, and one of each number below a bound. Assumes nothing.
use mathlib.Core.Path.{◌≡◌, refl, sym, ◌∙◌, ap}
use mathlib.Core.Bool.{Bool, true, false, true≢false, ◌&&◌}
use mathlib.Core.Logic.{⊎_elim}
use mathlib.Core.List.{List}
use Prim.Native.Nat.{ℕ, zero, suc, ◌+◌, ◌≤◌, ◌<◌}
use native.Mathlib.Omega.{arith}
use native.Mathlib.Nat.{not-suc-le-zero, eq-or-lt_of_le, le_of_suc-le-suc}
use native.Mathlib.Numerals.{add-one}
use lib.ListN.{length, get_or, take}
use Rattle.std.specs.List.{list_all}
use Rattle.std.proofs.lemmas.List.{take_all}
use Rattle.std.proofs.lemmas.List.Folds.{list_all_more}
use Rattle.lists.specs.All.{all}

pub and-true : (a b : Bool) → (a && b) ≡ true → (a ≡ true) × (b ≡ true)
and-true true b e = (refl, e)
and-true false b e = (e, cc)

pub and-false : (a : Bool) → (a && false) ≡ false
and-false true = refl
and-false false = refl

module _ (f : ℕ → Bool) where
  pub all_none : all f 0 ≡ true
  unfolding all
  all_none = refl

  -- One more that passes.
  pub all_more : (k : ℕ) → all f k ≡ true → f k ≡ true → all f (k + 1) ≡ true
  unfolding all
  all_more k e g = rw (add-one, e, g)

  -- One that fails.
  pub all-stop : (i k : ℕ) → i < k → f i ≡ false → all f k ≡ false
  unfolding all
  all-stop i zero h e = absurd (not-suc-le-zero h)
  all-stop i (suc k) h e =
      ⊎_elim (λ q. rw (← q, e) (and-false (all f i))) (λ q. rw (all-stop i k q e))
      (eq-or-lt_of_le (le_of_suc-le-suc h))

  pub all-at : (k : ℕ) → all f k ≡ true → (i : ℕ) → i < k → f i ≡ true
  unfolding all
  all-at zero e i h = absurd (not-suc-le-zero h)
  all-at (suc k) e i h =
      let p = and-true (all f k) (f k) e in
      ⊎_elim (λ q. ap f q ∙ p.1) (λ q. all-at k p.0 i q) (eq-or-lt_of_le (le_of_suc-le-suc h))

  pub all_of : (k : ℕ) → ((i : ℕ) → i < k → f i ≡ true) → all f k ≡ true
  unfolding all
  all_of zero h = refl
  all_of (suc k) h = rw (all_of k (λ i l. h i (omega arith)), h k (omega arith))

  -- Where not all pass, one of them fails.
  abbrev Failing : ℕ → Type 0
  Failing k = (i : ℕ) × (i < k) × (f i ≡ false)

  pub all-fails : (k : ℕ) → all f k ≡ false → Failing k
  unfolding all
  all-fails zero e = absurd (true≢false e)
  all-fails (suc k) e = go (all f k) refl (f k) refl (all-fails k)
    where
      go : (a : Bool) → all f k ≡ a → (b : Bool) → f k ≡ b → (all f k ≡ false → Failing k) → Failing (suc k)
      go true p true q earlier = absurd (true≢false (sym (rw (p, q)) ∙ e))
      go true p false q earlier = (k, omega arith, q)
      go false p b q earlier = let w = earlier p in (w.0, omega (arith, w.1), w.2)

-- A test of each number below the length of a list, by what the list has there, is the test of its elements.
module _ {A : Type 0} (f : A → Bool) (xs : List A) (d : A) where
  pub all-taken : (k : ℕ) → k ≤ length xs → all (λ j. f (get_or xs j d)) k ≡ list_all f (take k xs)
  unfolding all
  all-taken zero h = refl
  all-taken (suc k) h = rw (all-taken k (omega arith), ← add-one k) (sym (list_all_more f xs k d (omega arith)))

  pub all-listed : all (λ j. f (get_or xs j d)) (length xs) ≡ list_all f xs
  all-listed = all-taken (length xs) (omega arith) ∙ ap (list_all f) (take_all (length xs) xs (omega arith))
