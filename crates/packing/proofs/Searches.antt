-- Laws of the searches and counts of specs/Search.antt, of sums, and of numbers that rise from round to round until
-- they settle. Assumes nothing.
use mathlib.Core.Path.{◌≡◌, refl, ◌∙◌, sym}
use mathlib.Core.Bool.{Bool, true, false, ◌||◌, or-true}
use mathlib.Core.Logic.{◌⊎◌, inl, inr, ⊎_elim}
use Prim.Native.Nat.{ℕ, zero, suc, ◌+◌, ◌*◌, ◌≤◌, ◌<◌}
use native.Mathlib.Omega.{arith}
use native.Mathlib.Nat.{suc-mul}
use native.Mathlib.Decide.{ℕ_discrete, dec_le}
use Rattle.lists.proofs.Choice.{chosen, false-true}
use Rattle.packing.specs.Search.{first, some, count}

-- A test passes or fails, with the fact which,
pub told : (b : Bool) → (b ≡ true) ⊎ (b ≡ false)
told true = inl refl
told false = inr refl

-- and not both.
pub not-both : (b : Bool) → b ≡ true → b ≡ false → ⊥
not-both b e f = false-true (sym f ∙ e)

-- One of two tests passes.
pub or_left : (a b : Bool) → a ≡ true → (a || b) ≡ true
or_left a b e = rw e

pub or_right : (a b : Bool) → b ≡ true → (a || b) ≡ true
or_right a b e = rw e (or-true a)

pub or_cases : (a b : Bool) → (a || b) ≡ true → (a ≡ true) ⊎ (b ≡ true)
or_cases true b e = inl refl
or_cases false b e = inr e

-- Two tests are equal if each passes where the other does.
pub both_ways : (a b : Bool) → (a ≡ true → b ≡ true) → (b ≡ true → a ≡ true) → a ≡ b
both_ways true b f g = sym (f refl)
both_ways false true f g = g refl
both_ways false false f g = refl

-- The first number below k that passes is at most k,
module _ (f : ℕ → Bool) where
  pub first-le : (k : ℕ) → first f k ≤ k
  unfolding first
  first-le zero = omega arith
  first-le (suc k) =
      chosen (λ x. x ≤ suc k) (f (first f k)) (λ e. omega (arith, first-le k)) (λ e. omega arith)

  -- it is k if it fails,
  pub first-end : (k : ℕ) → f (first f k) ≡ false → first f k ≡ k
  unfolding first
  first-end zero h = refl
  first-end (suc k) h =
      chosen (λ x. f x ≡ false → x ≡ suc k) (f (first f k)) (λ e g. absurd (not-both _ e g)) (λ e g. refl) h

  -- no number before it passes,
  pub first-none : (k j : ℕ) → j < first f k → f j ≡ false
  unfolding first
  first-none zero j h = absurd (omega arith)
  first-none (suc k) j h =
      chosen (λ x. j < x → f j ≡ false) (f (first f k)) (λ e l. first-none k j l)
      (λ e l. elim (ℕ_discrete j (first f k)) [
        | yes q ↦ rw q e
        | no q ↦ first-none k j (omega (arith, first-end k e))
      ]) h

  -- it passes if k does,
  pub first_passes : (k : ℕ) → f k ≡ true → f (first f k) ≡ true
  first_passes k e =
      ⊎_elim (λ q. q) (λ q. absurd (not-both (f k) e (rw (first-end k q) at q))) (told (f (first f k)))

  -- it is at most any that passes,
  pub first-least : (k x : ℕ) → f x ≡ true → first f k ≤ x
  first-least k x e =
      elim (dec_le (first f k) x) [
        | yes l ↦ l
        | no l ↦ absurd (not-both (f x) e (first-none k x (omega arith)))
      ]

  -- and it is where a search upwards stops.
  pub first_found : (k x : ℕ) → x ≤ k → ((j : ℕ) → j < x → f j ≡ false) → (f x ≡ true) ⊎ (x ≡ k) → first f k ≡ x
  first_found k x l none end =
      elim (dec_le x (first f k)) [
        | yes u ↦ ⊎_elim (λ e. omega (arith, first-least k x e)) (λ e. omega (arith, first-le k)) end
        | no u ↦ absurd (omega (arith, first-end k (none (first f k) (omega arith))))
      ]

-- It is the same for tests that are equal at all numbers up to k.
pub first-agree : (f g : ℕ → Bool) (k : ℕ) → ((j : ℕ) → j ≤ k → f j ≡ g j) → first f k ≡ first g k
first-agree f g k h =
    let l = first-le g k in
    first_found f k (first g k) l (λ j u. h j (omega arith) ∙ first-none g k j u)
    (⊎_elim (λ e. inl (h (first g k) l ∙ e)) (λ e. inr (first-end g k e)) (told (g (first g k))))

-- Some number below k passes.
module _ (f : ℕ → Bool) where
  pub some_of : (k i : ℕ) → i < k → f i ≡ true → some f k ≡ true
  unfolding some
  some_of zero i l e = absurd (omega arith)
  some_of (suc k) i l e =
      elim (ℕ_discrete i k) [
        | yes q ↦ or_right (some f k) (f k) (rw q at e)
        | no q ↦ or_left (some f k) (f k) (some_of k i (omega arith) e)
      ]

  pub some_at : (k : ℕ) → some f k ≡ true → (i : ℕ) × (i < k) × (f i ≡ true)
  unfolding some
  some_at zero e = absurd (false-true e)
  some_at (suc k) e =
      ⊎_elim (λ q. let p = some_at k q in (p.0, omega (arith, p.1), p.2)) (λ q. (k, omega arith, q))
      (or_cases (some f k) (f k) e)

-- It is the same for tests that are equal below k.
pub some_same : (f g : ℕ → Bool) (k : ℕ) → ((i : ℕ) → i < k → f i ≡ g i) → some f k ≡ some g k
unfolding some
some_same f g zero h = refl
some_same f g (suc k) h = rw (some_same f g k (λ i l. h i (omega arith)), h k (omega arith))

-- How many numbers below k pass, by whether k does.
module _ (f : ℕ → Bool) where
  pub count_none : count f 0 ≡ 0
  unfolding count
  count_none = refl

  pub count-more : (k : ℕ) → f k ≡ true → count f (suc k) ≡ suc (count f k)
  unfolding count
  count-more k e = rw e

  pub count_same : (k : ℕ) → f k ≡ false → count f (suc k) ≡ count f k
  unfolding count
  count_same k e = rw e

  pub count-step : (k : ℕ) → (count f k ≤ count f (suc k)) × (count f (suc k) ≤ suc (count f k))
  count-step k =
      ⊎_elim (λ q. let z = count-more k q in (omega arith, omega arith))
      (λ q. let z = count_same k q in (omega arith, omega arith)) (told (f k))

  -- The count is at most k, it does not fall, and it rises over a number that passes.
  pub count-le : (k : ℕ) → count f k ≤ k
  count-le zero = omega (arith, count_none)
  count-le (suc k) = omega (arith, count-le k, (count-step k).1)

  pub count-rises : (k i : ℕ) → i ≤ k → count f i ≤ count f k
  count-rises zero i l = let z : i ≡ 0 = omega arith in rw z (omega arith)
  count-rises (suc k) i l =
      elim (ℕ_discrete i (suc k)) [
        | yes q ↦ rw q (omega arith)
        | no q ↦ omega (arith, count-rises k i (omega arith), (count-step k).0)
      ]

  pub count-below : (k i : ℕ) → f i ≡ true → i < k → count f i < count f k
  count-below k i e l = omega (arith, count-rises k (suc i) l, count-more i e)

  -- Each number below the count of k is the count of one below k that passes.
  pub count-onto : (k x : ℕ) → x < count f k → (i : ℕ) × (i < k) × (f i ≡ true) × (count f i ≡ x)
  count-onto zero x l = absurd (omega (arith, count_none))
  count-onto (suc k) x l =
      elim (dec_le (suc x) (count f k)) [
        | yes m ↦ let p = count-onto k x m in (p.0, omega (arith, p.1), p.2, p.3)
        | no m ↦ ⊎_elim (λ q. (k, omega arith, q, omega (arith, count-more k q)))
            (λ q. absurd (omega (arith, count_same k q))) (told (f k))
      ]

-- Let m keep some of the numbers below n, and f' test the count of a kept number as f tests the number itself. Then no
-- more pass f' than pass f.
pub count-fewer : (f f' m : ℕ → Bool) (n : ℕ) → ((i : ℕ) → i < n → m i ≡ true → f' (count m i) ≡ f i)
    → count f' (count m n) ≤ count f n
count-fewer f f' m zero h = rw (count_none m, count_none f') (omega arith)
count-fewer f f' m (suc n) h =
    let below = count-fewer f f' m n (λ i l. h i (omega arith)) in
    ⊎_elim (λ q. rw (count-more m n q) (more (h n (omega arith) q) below))
    (λ q. rw (count_same m n q) (omega (arith, below, (count-step f n).0))) (told (m n))
  where
    more : f' (count m n) ≡ f n → count f' (count m n) ≤ count f n → count f' (suc (count m n)) ≤ count f (suc n)
    more e l =
        ⊎_elim (λ q. omega (arith, count-more f n q, (count-step f' (count m n)).1))
        (λ q. omega (arith, count_same f n q, count_same f' (count m n) (e ∙ q))) (told (f n))

-- The sum of the first k numbers,
pub total : (ℕ → ℕ) → ℕ → ℕ
total f zero = zero
total f (suc k) = total f k + f k

-- of zeros,
pub total-none : (k : ℕ) → total (λ i. 0) k ≡ 0
unfolding total
total-none zero = refl
total-none (suc k) = omega (arith, total-none k)

-- of numbers below b, and of numbers that are not above those of another sum.
pub total-bound : (f : ℕ → ℕ) (b k : ℕ) → ((i : ℕ) → i < k → f i < b) → total f k + k ≤ k * b
unfolding total
total-bound f b zero h = omega arith
total-bound f b (suc k) h =
    omega (arith, total-bound f b k (λ i l. h i (omega arith)), h k (omega arith), suc-mul k b)

pub total-le : (f g : ℕ → ℕ) (k : ℕ) → ((i : ℕ) → i < k → f i ≤ g i) → total f k ≤ total g k
unfolding total
total-le f g zero h = omega arith
total-le f g (suc k) h = omega (arith, total-le f g k (λ i l. h i (omega arith)), h k (omega arith))

-- If that sum is not above, the numbers are the same.
pub total-same : (f g : ℕ → ℕ) (k : ℕ) → ((i : ℕ) → i < k → f i ≤ g i) → total g k ≤ total f k
    → (i : ℕ) → i < k → f i ≡ g i
unfolding total
total-same f g zero h e i l = absurd (omega arith)
total-same f g (suc k) h e i l =
    let low = total-le f g k (λ j u. h j (omega arith)) in
    let here = h k (omega arith) in
    elim (ℕ_discrete i k) [
      | yes q ↦ rw q (omega arith)
      | no q ↦ total-same f g k (λ j u. h j (omega arith)) (omega arith) i (omega arith)
    ]

-- Of n numbers below b, s k i is number i after k rounds. A round that changes none of them settles them.
module _ (s : ℕ → ℕ → ℕ) (n b : ℕ) where
  abbrev pub Settled : ℕ → Type 0
  Settled k = (i : ℕ) → i < n → s k i ≡ s (suc k) i

  module _ (rise : (k i : ℕ) → i < n → s k i ≤ s (suc k) i) (low : (k i : ℕ) → i < n → s k i < b)
      (stay : (k : ℕ) → Settled k → Settled (suc k)) where
    -- Where none falls and a settled round is followed by settled ones, each round before that adds to their sum.
    settles : (k : ℕ) → Settled k ⊎ (k ≤ total (s k) n)
    settles zero = inr (omega arith)
    settles (suc k) =
        ⊎_elim (λ q. inl (stay k q))
        (λ l. elim (dec_le (total (s (suc k)) n) (total (s k) n)) [
          | yes m ↦ inl (stay k (total-same (s k) (s (suc k)) n (rise k) m))
          | no m ↦ inr (omega arith)
        ]) (settles k)

    -- So n·b rounds are enough.
    pub settled : Settled (n * b)
    settled i l =
        ⊎_elim (λ q. q i l)
        (λ m. absurd (omega (arith, total-bound (s (n * b)) b n (low (n * b))))) (settles (n * b))
