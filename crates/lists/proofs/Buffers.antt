-- Numbers stored in a buffer at a cursor (`sets` of `lib.Seq`), the copy of a list's front, and what is left of a list
-- from a place on. Assumes nothing.
use mathlib.Core.List.{List, [], ◌∷◌, ◌++◌}
use mathlib.Core.Path.{◌≡◌, refl, sym, ap, ◌∙◌}
use Prim.Native.Nat.{ℕ, suc, ◌+◌, ◌-◌, ◌≤◌, ◌<◌, min}
use native.Mathlib.Decide.{dec_le}
use native.Mathlib.Nat.{zero-add, add-zero, add-suc, suc-add}
use native.Mathlib.Numerals.{add-one}
use native.Mathlib.Omega.{arith}
use lib.ListN.{length, get_or, take, drop, set, drop_of_length-le}
use lib.Seq.{sets, length-sets, sets-eq, set_out, take-add, take-nil, drop-cons, length-take-le}

-- Storing xs and then, right after them, ys is storing both at once.
pub sets-append : (o : List ℕ) (i : ℕ) (xs ys : List ℕ) → sets (sets o i xs) (i + length xs) ys ≡ sets o i (xs ++ ys)
sets-append o i [] ys = rw add-zero
sets-append o i (x ∷ xs) ys =
    ap (λ (n : ℕ). sets (sets (set o i x) (suc i) xs) n ys) (add-suc i (length xs) ∙ sym (suc-add i (length xs)))
    ∙ sets-append (set o i x) (suc i) xs ys

-- Four numbers stored one after the other.
pub sets-four : (l : List ℕ) (x a b c d : ℕ)
    → set (set (set (set l x a) (x + 1) b) (x + 2) c) (x + 3) d ≡ sets l x (a ∷ b ∷ c ∷ d ∷ [])
sets-four l x a b c d =
    let e : x + 1 ≡ suc x = omega arith in
    let f : x + 2 ≡ suc (suc x) = omega arith in
    let g : x + 3 ≡ suc (suc (suc x)) = omega arith in
    rw (e, f, g)

-- Nothing is stored past the end.
pub sets-out : (o : List ℕ) (i : ℕ) (xs : List ℕ) → length o ≤ i → sets o i xs ≡ o
sets-out o i [] h = refl
sets-out o i (x ∷ xs) h = rw (set_out o i x h) (sets-out o (suc i) xs (omega arith))

-- The front of xs, where it is there and has room.
pub sets-front : (o xs : List ℕ) (n : ℕ) → n ≤ length xs → n ≤ length o
    → sets o 0 (take n xs) ≡ take n xs ++ drop n o
sets-front o xs n p q =
    let long : length (take n xs) ≡ n = length-take-le n xs p in
    sets-eq (take n xs) o 0 (omega arith) ∙ rw (zero-add, long)

-- What is stored of the front of xs: no more than is there, and than has room in o.
module _ (o xs : List ℕ) (k n : ℕ) where
  front-split : n ≤ length xs → n ≤ k
      → sets (sets o 0 (take n xs)) n (take (k - n) (drop n xs)) ≡ sets o 0 (take k xs)
  front-split p q =
      let long : 0 + length (take n xs) ≡ n = zero-add _ ∙ length-take-le n xs p in
      let whole : n + (k - n) ≡ k = omega arith in
      ap (λ (m : ℕ). sets (sets o 0 (take n xs)) m (take (k - n) (drop n xs))) (sym long)
      ∙ sets-append o 0 (take n xs) (take (k - n) (drop n xs))
      ∙ ap (sets o 0) (sym (take-add n (k - n) xs) ∙ ap (λ (m : ℕ). take m xs) whole)

  -- Nothing more is there, or has room, or is asked for.
  none_left : (n < length xs → n < length o → k ≤ n)
      → sets (sets o 0 (take n xs)) n (take (k - n) (drop n xs)) ≡ sets o 0 (take n xs)
  none_left h =
      elim (dec_le (length o) n) [
        | yes p ↦ sets-out _ n (take (k - n) (drop n xs)) (omega (arith, length-sets o 0 (take n xs)))
        | no p ↦ elim (dec_le (length xs) n) [
          | yes q ↦ rw (drop_of_length-le xs q, take-nil (k - n))
          | no q ↦ (let none : k - n ≡ 0 = omega (arith, h (omega arith) (omega arith)) in rw none)
        ]
      ]

  pub front-stored : n ≡ min k (min (length xs) (length o)) → sets o 0 (take n xs) ≡ sets o 0 (take k xs)
  front-stored e = sym (none_left (λ p q. omega arith)) ∙ front-split (omega arith) (omega arith)

-- The front of xs copied over the front of o.
pub copied : (o xs : List ℕ) (k n : ℕ) → n ≡ min (min k (length xs)) (length o)
    → take n xs ++ drop n o ≡ sets o 0 (take k xs)
copied o xs k n e = sym (sets-front o xs n (omega arith) (omega arith)) ∙ front-stored o xs k n (omega arith)

-- The numbers from place i on: the one at i and those after it.
pub drop_more : (l : List ℕ) (i : ℕ) → i < length l → drop i l ≡ get_or l i 0 ∷ drop (i + 1) l
drop_more l i h = rw (add-one i) (drop-cons l i 0 h)
