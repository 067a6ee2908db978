-- A line, one byte at a time. Assumes nothing.
use mathlib.Core.Bool.{Bool, true, false, cond, not}
use mathlib.Core.Path.{◌≡◌, refl, ap, ◌∙◌}
use mathlib.Core.List.{List, [], ◌∷◌}
use Prim.Native.Nat.{ℕ, suc, ◌+◌, ◌-◌, ◌≤◌, ◌<◌, min}
use native.Mathlib.Numerals.{add-one}
use native.Mathlib.Omega.{arith}
use lib.Dec.{eqb}
use lib.ListN.{length, get_or, take, drop, drop_of_length-le, length-drop}
use lib.Seq.{drop-cons}
use borrow.Author.Tests.{ne_eqb}
use Rattle.std.specs.List.{position_or_len, position}
use Rattle.std.specs.Option.{unwrap_or}
use Rattle.std.proofs.Common.{Option}
use Rattle.std.proofs.lemmas.List.{take_rest, drop_min}
use Rattle.std.proofs.lemmas.List.Sums.{prefix_len-le-length}
use Rattle.lists.specs.Line.{line, line_from}
use Rattle.lists.specs.Text.{line_end}

-- At a line end, past the end of the text, and at another byte.
module _ (s : List ℕ) (i : ℕ) where
  pub line-stop : i < length s → get_or s i 0 ≡ line_end → line_from s i ≡ []
  unfolding line
  line-stop h e = rw (drop-cons s i 0, e)

  pub line-past : length s ≤ i → line_from s i ≡ []
  unfolding line
  line-past h = rw (drop_of_length-le s h)

  pub line-more : i < length s → (get_or s i 0 ≡ line_end → ⊥) → line_from s i ≡ get_or s i 0 ∷ line_from s (i + 1)
  unfolding line
  line-more h n = rw (drop-cons s i 0, ne_eqb _ _ n, add-one i)

-- A line is no longer than its text.
pub line-short : (s : List ℕ) → length (line s) ≤ length s
unfolding line
line-short [] = omega arith
line-short (b ∷ s) = at_byte (eqb b line_end) (line-short s)
  where
    at_byte : (t : Bool) → length (line s) ≤ length s → length (cond t [] (b ∷ line s)) ≤ suc (length s)
    at_byte true h = omega arith
    at_byte false h = omega arith

pub line-fits : (s : List ℕ) (i : ℕ) → i ≤ length s → i + length (line_from s i) ≤ length s
line-fits s i h = omega (arith, line-short (drop i s), length-drop i s)

-- The line's length is the place of the first line end, or of the end of the text.
pub line_long : (s : List ℕ) → length (line s) ≡ position_or_len (λ b. eqb b line_end) s
unfolding line
line_long [] = refl
line_long (b ∷ s) = at_byte (eqb b line_end) (line_long s)
  where
    at_byte : (t : Bool) → length (line s) ≡ position_or_len (λ c. eqb c line_end) s
        → length (cond t [] (b ∷ line s)) ≡ cond (not t) (1 + position_or_len (λ c. eqb c line_end) s) 0
    at_byte true h = refl
    at_byte false h = rw h (omega arith)

-- So is the place that a search for a line end gives, or else the text's length.
line_place : (s : List ℕ) (r : Option ℕ) → r ≡ position (λ b. eqb b line_end) s
    → unwrap_or r (length s) ≡ length (line s)
line_place s r e =
    let short = prefix_len-le-length (λ b. not (eqb b line_end)) s in
    rw (e, line_long s) (grind arith)

-- The same in what a text has from a place on, which its end bounds.
pub line_place_from : (s : List ℕ) (at m : ℕ) (r : Option ℕ) → m ≡ min at (length s)
    → r ≡ position (λ b. eqb b line_end) (take (length s - m) (drop m s))
    → unwrap_or r (length (take (length s - m) (drop m s))) ≡ length (line_from s at)
line_place_from s at m r e f =
    let same : take (length s - m) (drop m s) ≡ drop at s = rw e (take_rest s (min at (length s)) ∙ drop_min at s) in
    rw same (line_place (drop at s) r (rw same at f))

-- The line is the front of the bytes.
take-line-split : (b : ℕ) (s : List ℕ) (t : Bool) → eqb b line_end ≡ t → take (length (line s)) s ≡ line s
    → take (length (line (b ∷ s))) (b ∷ s) ≡ line (b ∷ s)
unfolding line
take-line-split b s true e ih = rw e
take-line-split b s false e ih = rw e (ap (λ (l : List ℕ). b ∷ l) ih)

pub take-line : (s : List ℕ) → take (length (line s)) s ≡ line s
unfolding line
take-line [] = refl
take-line (b ∷ s) = take-line-split b s (eqb b line_end) refl (take-line s)
