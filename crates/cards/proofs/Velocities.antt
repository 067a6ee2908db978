-- The velocity behind a comma (specs/Ticks.antt): at a place of a line, at the end of one, and in bytes with more
-- lines behind it. None of its bytes is a line end. Assumes nothing.
use mathlib.Core.Path.{◌≡◌, refl}
use mathlib.Core.Bool.{Bool, true, false, cond}
use mathlib.Core.List.{List, [], ◌∷◌}
use Prim.Native.Nat.{ℕ, ◌+◌, ◌*◌, ◌≤◌, ◌<◌}
use native.Mathlib.Omega.{arith}
use native.Mathlib.Numerals.{add-one}
use lib.Dec.{eqb, ltb, leb}
use lib.ListN.{length, get_or, drop, drop_of_length-le}
use lib.Seq.{drop-cons}
use borrow.Author.Tests.{eq-eqb, ne_eqb, lt-ltb, le-ltb, ltb-true, eqb-true}
use Rattle.std.specs.Prelude.{Some, None}
use Rattle.limits.specs.Limits.{last_literal}
use Rattle.lists.specs.Text.{byte, line_end}
use Rattle.lists.specs.Line.{line}
use Rattle.lists.specs.Decimal.{is_digit, digit_value, settled, digits_after, numeral}
use Rattle.lists.specs.Decimal.Numeral.{is, above}
use Rattle.cards.specs.Numbers.{Parsed, parsed, number, wholly}
use Rattle.cards.specs.Numbers.Parsed.{done, none}
use Rattle.cards.specs.Ticks.{low_by, velocity_in}
use Rattle.cards.specs.Place.{ReadsAs}
use Rattle.cards.specs.declared.Found.{Found}
use Rattle.cards.proofs.Sized.{last-short}

-- ---- at a place of s

module _ (velocities : ℕ) (s : List ℕ) (at : ℕ) where
  -- No byte is there, or another one than a comma.
  pub velocity_past : length s ≤ at → ReadsAs {A = ℕ} None s (velocity_in velocities (drop at s))
  unfolding velocity_in
  velocity_past h = record { means = rw (drop_of_length-le s h); within = omega arith }

  pub velocity_other : at < length s → (get_or s at 0 ≡ byte "," → ⊥)
      → ReadsAs {A = ℕ} None s (velocity_in velocities (drop at s))
  unfolding velocity_in
  velocity_other h e = record { means = rw (drop-cons s at 0, ne_eqb _ _ e); within = omega arith }

  -- A comma is there: the number behind it decides.
  module _ (h : at < length s) (e : get_or s at 0 ≡ byte ",") where
    behind : velocity_in velocities (drop at s) ≡ low_by velocities (number last_literal (drop (at + 1) s))
    unfolding velocity_in
    behind = rw (drop-cons s at 0, eq-eqb _ _ e, add-one at)

    pub velocity_none : ReadsAs None s (number last_literal (drop (at + 1) s))
        → ReadsAs {A = ℕ} None s (velocity_in velocities (drop at s))
    velocity_none r = rw behind (record { means = rw (← r.means); within = omega arith })

    module _ {f : Found ℕ} (r : ReadsAs (Some f) s (number last_literal (drop (at + 1) s))) where
      pub velocity_high : velocities ≤ f.value → ReadsAs {A = ℕ} None s (velocity_in velocities (drop at s))
      velocity_high g = rw behind (record { means = rw (← r.means, le-ltb _ _ g); within = omega arith })

      pub velocity_low : f.value < velocities → ReadsAs (Some f) s (velocity_in velocities (drop at s))
      velocity_low g = rw behind (record { means = rw (← r.means, lt-ltb _ _ g); within = r.within })

pub ruleset velocity = (velocity_past, velocity_other, velocity_none, velocity_high, velocity_low)

-- ---- at the end of a line

low-last : (velocities : ℕ) (p : Parsed ℕ) {v : ℕ} → wholly (low_by velocities p) ≡ Some v
    → (v < velocities) × (wholly p ≡ Some v)
unfolding wholly
low-last velocities none e = cc
low-last velocities (done w r) {v} e = by-test (ltb w velocities) r refl e
  where
    by-test : (t : Bool) (r : List ℕ) → ltb w velocities ≡ t → wholly (cond t (done w r) none) ≡ Some v
        → (v < velocities) × (wholly (done w r) ≡ Some v)
    by-test true [] z q = let same : w ≡ v = cc in (rw same at (ltb-true w velocities z), q)
    by-test true (b ∷ r) z q = cc
    by-test false r z q = cc

-- It is below how many there are, and it takes at most eight bytes with its comma.
pub velocity-last : (velocities : ℕ) (l : List ℕ) {v : ℕ} → wholly (velocity_in velocities l) ≡ Some v
    → (v < velocities) × (length l ≤ 8)
unfolding velocity_in wholly
velocity-last velocities [] e = cc
velocity-last velocities (b ∷ l) {v} e = by_byte (eqb b (byte ",")) e
  where
    by_byte : (t : Bool) → wholly (cond t (low_by velocities (number last_literal l)) none) ≡ Some v
        → (v < velocities) × (length (b ∷ l) ≤ 8)
    by_byte true q =
        let both = low-last velocities (number last_literal l) q in
        (both.0, omega (arith, last-short last_literal (omega arith) l v both.1))
    by_byte false q = cc

-- ---- with more lines behind it

-- What is read at the front of l, and at the front of its first line: the same number, and none of its bytes is a line
-- end, so that the line goes on behind it.
abbrev pub Within : {A : Type 0} → List ℕ → Parsed A → Parsed A → Type 0
Within l (done v r) q = (q ≡ done v (line r)) × (length l + length (line r) ≡ length (line l) + length r)
Within l none q = q ≡ none

-- A byte in front that is no line end.
byte-within : (b : ℕ) (l : List ℕ) → eqb b line_end ≡ false → (p q : Parsed ℕ) → Within l p q → Within (b ∷ l) p q
unfolding line
byte-within b l e (done v r) q h = (h.0, rw e (omega (arith, h.1)))
byte-within b l e none q h = h

settled-within : (max v : ℕ) (l : List ℕ) → Within l (parsed (settled max v l)) (parsed (settled max v (line l)))
settled-within max v l = by-test (leb v max)
  where
    by-test : (t : Bool)
        → Within l (parsed (cond t (is v l) (above l))) (parsed (cond t (is v (line l)) (above (line l))))
    by-test true = (refl, omega arith)
    by-test false = refl

-- The digits: a line end is none.
end-no-digit : is_digit line_end ≡ false
unfolding is_digit
end-no-digit = refl

digits-within : (max v : ℕ) (l : List ℕ)
    → Within l (parsed (digits_after max v l)) (parsed (digits_after max v (line l)))
unfolding digits_after line
digits-within max v [] = settled-within max v []
digits-within max v (b ∷ l) =
    by_byte (eqb b line_end) (is_digit b) refl refl (digits-within max (v * 10 + digit_value b) l)
  where
    more : List ℕ → Parsed ℕ
    more r = parsed (digits_after max (v * 10 + digit_value b) r)

    by_byte : (t d : Bool) → eqb b line_end ≡ t → is_digit b ≡ d → Within l (more l) (more (line l))
        → Within (b ∷ l) (parsed (digits_after max v (b ∷ l))) (parsed (digits_after max v (line (b ∷ l))))
    by_byte true d e f ih = rw (eqb-true b line_end e, end-no-digit) (settled-within max v (line_end ∷ l))
    by_byte false true e f ih = rw (e, f) (byte-within b l e (more l) (more (line l)) ih)
    by_byte false false e f ih = rw (e, f) (rw e at (settled-within max v (b ∷ l)))

number-within : (max : ℕ) (l : List ℕ) → Within l (number max l) (number max (line l))
unfolding number numeral line
number-within max [] = refl
number-within max (b ∷ l) = by_byte (eqb b line_end) (eqb b (byte "0")) (is_digit b) refl refl refl
  where
    more : List ℕ → Parsed ℕ
    more r = parsed (digits_after max (digit_value b) r)

    by_byte : (t z d : Bool) → eqb b line_end ≡ t → eqb b (byte "0") ≡ z → is_digit b ≡ d
        → Within (b ∷ l) (parsed (numeral max (b ∷ l))) (parsed (numeral max (line (b ∷ l))))
    by_byte true z d e g f = rw (eqb-true b line_end e, end-no-digit) refl
    by_byte false true d e g f = rw (e, g) (byte-within b l e (done 0 l) (done 0 (line l)) (refl, omega arith))
    by_byte false false true e g f =
        rw (e, g, f) (byte-within b l e (more l) (more (line l)) (digits-within max (digit_value b) l))
    by_byte false false false e g f = rw (e, g, f)

low-within : (velocities : ℕ) (l : List ℕ) (p q : Parsed ℕ) → Within l p q
    → Within l (low_by velocities p) (low_by velocities q)
low-within velocities l (done v r) q h = rw h.0 (by-test (ltb v velocities))
  where
    by-test : (t : Bool) → Within l (cond t (done v r) none) (cond t (done v (line r)) none)
    by-test true = (refl, h.1)
    by-test false = refl
low-within velocities l none q h = rw h

pub velocity-within : (velocities : ℕ) (l : List ℕ)
    → Within l (velocity_in velocities l) (velocity_in velocities (line l))
unfolding velocity_in line
velocity-within velocities [] = refl
velocity-within velocities (b ∷ l) = by_byte (eqb b line_end) (eqb b (byte ",")) refl refl
  where
    first : Parsed ℕ
    first = number last_literal l

    inside : Parsed ℕ
    inside = number last_literal (line l)

    by_byte : (t c : Bool) → eqb b line_end ≡ t → eqb b (byte ",") ≡ c
        → Within (b ∷ l) (velocity_in velocities (b ∷ l)) (velocity_in velocities (line (b ∷ l)))
    by_byte true c e f = rw (eqb-true b line_end e) refl
    by_byte false true e f =
        rw (e, f)
        (byte-within b l e (low_by velocities first) (low_by velocities inside)
        (low-within velocities l first inside (number-within last_literal l)))
    by_byte false false e f = rw (e, f)
