-- Decimal numbers: what is known while their digits are read. Assumes nothing.
use mathlib.Core.Bool.{Bool, true, false, cond, and-eq-true_iff}
use mathlib.Core.List.{List, [], ◌∷◌}
use mathlib.Core.Path.{◌≡◌, refl, sym, ap, ◌∙◌}
use Prim.Native.Nat.{ℕ, ◌+◌, ◌-◌, ◌*◌, ◌≤◌, ◌<◌}
use native.Mathlib.Decide.{dec_le}
use native.Mathlib.Numerals.{add-one}
use native.Mathlib.Omega.{arith}
use lib.Dec.{eqb, leb}
use lib.ListN.{length, get_or, drop, drop_of_length-le}
use lib.Seq.{drop-cons}
use borrow.Author.Tests.{leb-true, ne_eqb, lt-leb}
use Rattle.lists.specs.Decimal.{Numeral, is_digit, settled, digits_after, numeral}
use Rattle.lists.specs.Place.{numeral_of, next_of, settled_at, DecimalAt}
use Rattle.lists.specs.Decimal.Numeral.{is, above, missing}
use Rattle.lists.specs.declared.Decimal.{Decimal}
use Rattle.lists.specs.declared.Decimal.TheVariants.{Is, Above, Missing}
use Rattle.lists.proofs.Choice.{chosen}

-- A digit is a byte from 48 to 57.
pub digit-range : (b : ℕ) → is_digit b ≡ true → (48 ≤ b) × (b ≤ 57)
unfolding is_digit
digit-range b t =
    let both = (and-eq-true_iff (leb 48 b) (leb b 57)).0 t in
    (leb-true 48 b both.0, leb-true b 57 both.1)

-- Above max, further digits are read alike, whatever the value is.
above-alike : (max v w : ℕ) (l : List ℕ) → max < v → max < w → digits_after max v l ≡ digits_after max w l
unfolding digits_after
above-alike max v w [] p q = simp (lt-leb v max p, lt-leb w max q)
above-alike max v w (b ∷ l) p q =
    let more = above-alike max (v * 10 + (b - 48)) (w * 10 + (b - 48)) l (omega arith) (omega arith) in
    rw (more, lt-leb v max p, lt-leb w max q)

-- The number at a place of s.
module _ {s : List ℕ} {at max : ℕ} where
  pub numeral-past : length s ≤ at → DecimalAt s at max Missing
  unfolding numeral
  numeral-past h = record { means = rw (drop_of_length-le s h); within = omega arith }

  module _ (h : at < length s) where
    pub numeral-zero : get_or s at 0 ≡ 48 → DecimalAt s at max (Is 0 (at + 1))
    unfolding numeral
    numeral-zero e = record { means = rw (drop-cons s at 0 h, e, add-one); within = omega arith }

    pub numeral-none : (get_or s at 0 ≡ 48 → ⊥) → is_digit (get_or s at 0) ≡ false → DecimalAt s at max Missing
    unfolding numeral
    numeral-none n e = record { means = rw (drop-cons s at 0 h, ne_eqb _ 48 n, e); within = omega arith }

-- The loop of the reader: the digits from place i on, after those of v, read as the number at `at` does.
pub record DigitsRead (s : List ℕ) (at max v i : ℕ) : Type 0 where
  pub rest : digits_after max v (drop i s) ≡ numeral max (drop at s)
  pub within : i ≤ length s
  pub held : v ≤ max * 10 + 9

pub digits-begun : {s : List ℕ} {at max v : ℕ} → at < length s → (get_or s at 0 ≡ 48 → ⊥)
    → is_digit (get_or s at 0) ≡ true → v ≡ get_or s at 0 - 48 → DigitsRead s at max v (at + 1)
unfolding numeral
digits-begun {s} {at} h n e f =
    record {
      rest = rw (f, drop-cons s at 0 h, ne_eqb _ 48 n, e, add-one);
      within = omega arith;
      held = omega (arith, digit-range _ e);
    }

-- Where the digits end, the value decides; above max it is held.
means-settled : (t : Bool) (v i : ℕ) (s : List ℕ)
    → cond t (is v (drop i s)) (above (drop i s)) ≡ numeral_of s (cond t (Is v i) (Above i))
means-settled true v i s = refl
means-settled false v i s = refl

next-settled : (t : Bool) (v i : ℕ) → next_of (cond t (Is v i) (Above i)) ≡ i
next-settled true v i = refl
next-settled false v i = refl

module _ {s : List ℕ} {at max v i : ℕ} (h : DigitsRead s at max v i) where
  ended : digits_after max v (drop i s) ≡ settled max v (drop i s) → DecimalAt s at max (settled_at max v i)
  ended e =
      record {
        means = sym (means-settled (leb v max) v i s) ∙ sym e ∙ h.rest;
        within = omega (arith, next-settled (leb v max) v i, h.within);
      }

  pub digits-past : length s ≤ i → DecimalAt s at max (settled_at max v i)
  unfolding digits_after
  digits-past p = ended (rw (drop_of_length-le s p))

  module _ (p : i < length s) where
    pub digits-stop : is_digit (get_or s i 0) ≡ false → DecimalAt s at max (settled_at max v i)
    unfolding digits_after
    digits-stop e = ended (rw (drop-cons s i 0 p, e))

    module _ (e : is_digit (get_or s i 0) ≡ true) where
      digit-read : digits_after max (v * 10 + (get_or s i 0 - 48)) (drop (i + 1) s) ≡ numeral max (drop at s)
      unfolding digits_after
      digit-read = sym (rw (add-one i, drop-cons s i 0 p, e)) ∙ h.rest

      -- A value up to max gets the digit; one above it is held.
      pub digits_more : (w : ℕ) → (v ≤ max → w ≡ v * 10 + (get_or s i 0 - 48)) → (max < v → w ≡ v)
          → DigitsRead s at max w (i + 1)
      digits_more w q r =
          elim (dec_le v max) [
            | yes l ↦ record {
              rest = rw (q l) digit-read;
              within = omega arith;
              held = omega (arith, q l, digit-range _ e);
            }
            | no l ↦ (let over : max < v = omega arith in
                record {
                  rest = rw (r over) (above-alike max v _ (drop (i + 1) s) over (omega arith) ∙ digit-read);
                  within = omega arith;
                  held = omega (arith, r over, h.held);
                })
          ]

-- What an answer says of the number, by its cases.
module _ {s : List ℕ} {at max : ℕ} {r : Decimal} (h : DecimalAt s at max r) where
  numeral-of : {q : Decimal} → r ≡ q → numeral max (drop at s) ≡ numeral_of s q
  numeral-of e = sym h.means ∙ ap (numeral_of s) e

  pub missing-of : r ≡ Missing → numeral max (drop at s) ≡ missing
  missing-of e = numeral-of e

  module _ {n : ℕ} where
    pub is-of : {v : ℕ} → r ≡ Is v n → numeral max (drop at s) ≡ is v (drop n s)
    is-of e = numeral-of e

    pub is-next : {v : ℕ} → r ≡ Is v n → n ≤ length s
    is-next e = rw e at h.within

    pub above_of : r ≡ Above n → numeral max (drop at s) ≡ above (drop n s)
    above_of e = numeral-of e

-- A number that is read is at most max.
abbrev Bounded : ℕ → Numeral → Type 0
Bounded max (is v l) = v ≤ max
Bounded max (above l) = Unit {0}
Bounded max missing = Unit {0}

digits-bounded : (max v : ℕ) (l : List ℕ) → Bounded max (digits_after max v l)
unfolding digits_after
digits-bounded max v [] = chosen (Bounded max) (leb v max) (leb-true v max) (λ _. tt)
digits-bounded max v (b ∷ l) =
    chosen (Bounded max) (is_digit b) (λ _. digits-bounded max (v * 10 + (b - 48)) l)
    (λ _. chosen (Bounded max) (leb v max) (leb-true v max) (λ _. tt))

numeral-bounded : (max : ℕ) (l : List ℕ) → Bounded max (numeral max l)
unfolding numeral
numeral-bounded max [] = tt
numeral-bounded max (b ∷ l) =
    chosen (Bounded max) (eqb b 48) (λ _. omega arith)
    (λ _. chosen (Bounded max) (is_digit b) (λ _. digits-bounded max (b - 48) l) (λ _. tt))

pub is-bounded : (max : ℕ) (l : List ℕ) {v : ℕ} {r : List ℕ} → numeral max l ≡ is v r → v ≤ max
is-bounded max l e = rw e at (numeral-bounded max l)

-- The steps of the reader.
pub ruleset decimal_steps = (
  numeral-past,
  numeral-zero,
  numeral-none,
  digits-begun,
  digits-past,
  digits-stop,
  digits_more,
)
