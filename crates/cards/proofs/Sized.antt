-- What is known of numbers that were read: none is above the highest that is asked for, and where that is at most
-- 999,999 a line of them is short. Assumes nothing.
use mathlib.Core.Path.{◌≡◌, refl, subst}
use mathlib.Core.Bool.{Bool, true, false, cond}
use mathlib.Core.List.{List, [], ◌∷◌, ◌++◌}
use Prim.Native.Nat.{ℕ, zero, suc, ◌+◌, ◌-◌, ◌*◌, ◌≤◌, ◌<◌}
use native.Mathlib.Omega.{arith}
use lib.Dec.{leb, eqb}
use lib.ListN.{length, get_or, length-drop}
use borrow.Author.Tests.{leb-true, eqb-false}
use Rattle.std.specs.Prelude.{Option, Some, None}
use Rattle.limits.specs.Limits.{literal_count, last_literal, line_limit}
use Rattle.cards.specs.Heads.{parameters_head, count_head, after_head}
use Rattle.lists.specs.Decimal.{Numeral, is_digit, settled, digits_after, numeral}
use Rattle.lists.specs.Decimal.Numeral.{is, above, missing}
use Rattle.lists.proofs.Choice.{chosen}
use Rattle.lists.proofs.Decimals.{digit-range, is-bounded}
use Rattle.cards.specs.Numbers.{Parsed, parsed, number, has_prefix, before, before_comma, then_listed, at_end}
use Rattle.cards.specs.Numbers.{numbers, last_parameter, parameters_of, wholly, count_of}
use Rattle.cards.specs.Numbers.Parsed.{done, none}

-- ---- how large

-- No number is above 999,999.
abbrev pub Low : List ℕ → Type 0
Low ps = (j : ℕ) → get_or ps j 0 < literal_count

append-low : (got : List ℕ) (v : ℕ) → Low got → v ≤ last_literal → Low (got ++ (v ∷ []))
append-low [] v h l zero = omega arith
append-low [] v h l (suc j) = omega arith
append-low (x ∷ got) v h l zero = h 0
append-low (x ∷ got) v h l (suc j) = append-low got v (λ i. h (suc i)) l j

-- A number that was read is at most max.
abbrev Small : ℕ → Parsed ℕ → Type 0
Small max (done v r) = v ≤ max
Small max none = Unit {0}

parsed-small : (max : ℕ) (l : List ℕ) (n : Numeral) → numeral max l ≡ n → Small max (parsed n)
parsed-small max l (is v r) e = is-bounded max l e
parsed-small max l (above r) e = tt
parsed-small max l missing e = tt

number_small : (max : ℕ) (l : List ℕ) → Small max (number max l)
unfolding number
number_small max l = parsed-small max l (numeral max l) refl

-- So all numbers of a list that was read are.
abbrev AllLow : Option (List ℕ) → Type 0
AllLow (Some ps) = Low ps
AllLow None = Unit {0}

end_low : (got : List ℕ) (p : Parsed ℕ) → Low got → Small last_literal p → AllLow (at_end got p)
unfolding at_end
end_low got none h s = tt
end_low got (done v []) h s = append-low got v h s
end_low got (done v (b ∷ l)) h s = tt

if-low : (b : Bool) (x : Option (List ℕ)) → AllLow x → AllLow (cond b x None)
if-low true x h = h
if-low false x h = tt

comma-small : (max : ℕ) (p : Parsed ℕ) → Small max p → Small max (before_comma p)
unfolding before
comma-small max none h = tt
comma-small max (done v []) h = tt
comma-small max (done v (b ∷ l)) h = chosen (Small max) (eqb b 44) (λ _. h) (λ _. tt)

then-low : (p : Parsed ℕ) (k : ℕ → List ℕ → Option (List ℕ)) → Small last_literal p
    → ((v : ℕ) (r : List ℕ) → v ≤ last_literal → AllLow (k v r)) → AllLow (then_listed p k)
then-low none k s h = tt
then-low (done v l) k s h = h v l s

numbers-low : (m : ℕ) (got l : List ℕ) → Low got → AllLow (numbers m got l)
unfolding numbers
numbers-low zero got l h = end_low got (number last_literal l) h (number_small last_literal l)
numbers-low (suc m) got l h =
    let first = number last_literal l in
    then-low (before_comma first) _ (comma-small last_literal first (number_small last_literal l))
    (λ v r s. numbers-low m (got ++ (v ∷ [])) r (append-low got v h s))

pub parameters-low : (l ps : List ℕ) → parameters_of l ≡ Some ps → Low ps
unfolding parameters_of
parameters-low l ps e =
    let rest = after_head parameters_head l in
    subst AllLow e
    (if-low (has_prefix parameters_head l) (numbers last_parameter [] rest)
    (numbers-low last_parameter [] rest (λ j. omega arith)))

-- So is a number that ends a line, and a number of ticks.
abbrev pub CountLow : ℕ → Option ℕ → Type 0
CountLow max (Some k) = k ≤ max
CountLow max None = Unit {0}

wholly-low : (max : ℕ) (p : Parsed ℕ) → Small max p → CountLow max (wholly p)
unfolding wholly
wholly-low max none h = tt
wholly-low max (done v []) h = h
wholly-low max (done v (b ∷ l)) h = tt

pub last-low : (max : ℕ) (l : List ℕ) → CountLow max (wholly (number max l))
last-low max l = wholly-low max (number max l) (number_small max l)

if-count : (max : ℕ) (b : Bool) (x : Option ℕ) → CountLow max x → CountLow max (cond b x None)
if-count max true x h = h
if-count max false x h = tt

pub count_low : (l : List ℕ) → CountLow last_literal (count_of l)
unfolding count_of
count_low l = if-count last_literal (has_prefix count_head l) _ (last-low last_literal (after_head count_head l))

-- ---- how long

-- The number that was read at the front of l takes at most m bytes.
abbrev Takes : ℕ → List ℕ → Parsed ℕ → Type 0
Takes m l (done v r) = length l ≤ m + length r
Takes m l none = Unit {0}

-- The same of what the definition of decimal numbers says.
abbrev Spends : ℕ → List ℕ → Numeral → Type 0
Spends m l n = Takes m l (parsed n)

one_more : (m b : ℕ) (l : List ℕ) (n : Numeral) → Spends m l n → Spends (suc m) (b ∷ l) n
one_more m b l (is v r) h = omega arith
one_more m b l (above r) h = tt
one_more m b l missing h = tt

-- From this number on, k digits more are too many: they would make it 1,000,000 or more.
abbrev least : ℕ → ℕ
least zero = literal_count
least (suc zero) = 100000
least (suc (suc zero)) = 10000
least (suc (suc (suc zero))) = 1000
least (suc (suc (suc (suc zero)))) = 100
least (suc (suc (suc (suc (suc zero))))) = 10
least (suc (suc (suc (suc (suc (suc k)))))) = 1

least_step : (k : ℕ) → least k ≤ least (suc k) * 10
least_step zero = omega arith
least_step (suc zero) = omega arith
least_step (suc (suc zero)) = omega arith
least_step (suc (suc (suc zero))) = omega arith
least_step (suc (suc (suc (suc zero)))) = omega arith
least_step (suc (suc (suc (suc (suc zero))))) = omega arith
least_step (suc (suc (suc (suc (suc (suc k)))))) = omega arith

-- The highest number is at most 999,999.
module _ (max : ℕ) (small : max ≤ last_literal) where
  -- The digits end here: the number is read, or it is too large.
  settled-spends : (m v : ℕ) (l r : List ℕ) → length l ≤ m + length r → Spends m l (settled max v r)
  settled-spends m v l r h = chosen (Spends m l) (leb v max) (λ _. h) (λ _. tt)

  large-settled : (m v : ℕ) (l r : List ℕ) → literal_count ≤ v → Spends m l (settled max v r)
  large-settled m v l r h =
      chosen (Spends m l) (leb v max) (λ e. absurd (omega (arith, leb-true v max e))) (λ _. tt)

  -- A number that is too large is none, whatever digits follow.
  large-spends : (r : List ℕ) (m v : ℕ) (l : List ℕ) → literal_count ≤ v → Spends m l (digits_after max v r)
  unfolding digits_after
  large-spends [] m v l h = large-settled m v l [] h
  large-spends (b ∷ r) m v l h =
      chosen (Spends m l) (is_digit b) (λ _. large-spends r m (v * 10 + (b - 48)) l (omega arith))
      (λ _. large-settled m v l (b ∷ r) h)

  digit-spends : (k b v : ℕ) (l : List ℕ) → least k ≤ v
      → ((m : ℕ) → least m ≤ v * 10 + (b - 48) → Spends m l (digits_after max (v * 10 + (b - 48)) l))
      → Spends k (b ∷ l) (digits_after max (v * 10 + (b - 48)) l)
  digit-spends zero b v l h ih = large-spends l zero (v * 10 + (b - 48)) (b ∷ l) (omega arith)
  digit-spends (suc k) b v l h ih =
      one_more k b l (digits_after max (v * 10 + (b - 48)) l) (ih k (omega (arith, h, least_step k)))

  digits-spend : (l : List ℕ) (k v : ℕ) → least k ≤ v → Spends k l (digits_after max v l)
  unfolding digits_after
  digits-spend [] k v h = settled-spends k v [] [] (omega arith)
  digits-spend (b ∷ l) k v h =
      chosen (Spends k (b ∷ l)) (is_digit b)
      (λ _. digit-spends k b v l h (λ m g. digits-spend l m (v * 10 + (b - 48)) g))
      (λ _. settled-spends k v (b ∷ l) (b ∷ l) (omega arith))

  number-takes : (l : List ℕ) → Takes 7 l (number max l)
  unfolding number numeral
  number-takes [] = tt
  number-takes (b ∷ l) =
      chosen (Spends 7 (b ∷ l)) (eqb b 48) (λ _. omega arith)
      (λ z. chosen (Spends 7 (b ∷ l)) (is_digit b)
      (λ d. one_more 6 b l (digits_after max (b - 48) l)
      (digits-spend l 6 (b - 48) (omega (arith, eqb-false b 48 z, digit-range b d)))) (λ _. tt))

-- A number of SPEC 10.3 or SPEC 10.5.
literal-takes : (l : List ℕ) → Takes 7 l (number last_literal l)
literal-takes l = number-takes last_literal (omega arith) l

-- A list of numbers that was read has at most m bytes.
abbrev Spans : ℕ → List ℕ → Option (List ℕ) → Type 0
Spans m l (Some ps) = length l ≤ m
Spans m l None = Unit {0}

end-spans : (got l : List ℕ) (p : Parsed ℕ) → Takes 7 l p → Spans 7 l (at_end got p)
unfolding at_end
end-spans got l none h = tt
end-spans got l (done v []) h = omega arith
end-spans got l (done v (b ∷ r)) h = tt

comma-takes : (l : List ℕ) (p : Parsed ℕ) → Takes 7 l p → Takes 8 l (before_comma p)
unfolding before
comma-takes l none h = tt
comma-takes l (done v []) h = tt
comma-takes l (done v (b ∷ r)) h = chosen (Takes 8 l) (eqb b 44) (λ _. omega arith) (λ _. tt)

spans-more : (m n : ℕ) (l r : List ℕ) (x : Option (List ℕ)) → length l ≤ m + length r → Spans n r x → Spans (m + n) l x
spans-more m n l r (Some ps) h s = omega arith
spans-more m n l r None h s = tt

then-spans : (m n : ℕ) (l : List ℕ) (p : Parsed ℕ) (k : ℕ → List ℕ → Option (List ℕ)) → Takes m l p
    → ((v : ℕ) (r : List ℕ) → Spans n r (k v r)) → Spans (m + n) l (then_listed p k)
then-spans m n l none k h s = tt
then-spans m n l (done v r) k h s = spans-more m n l r (k v r) h (s v r)

abbrev span : ℕ → ℕ
span zero = 7
span (suc m) = 8 + span m

numbers-span : (m : ℕ) (got l : List ℕ) → Spans (span m) l (numbers m got l)
unfolding numbers
numbers-span zero got l = end-spans got l (number last_literal l) (literal-takes l)
numbers-span (suc m) got l =
    let first = number last_literal l in
    then-spans 8 (span m) l (before_comma first) _ (comma-takes l first (literal-takes l))
    (λ v r. numbers-span m (got ++ (v ∷ [])) r)

if-spans : (m : ℕ) (l : List ℕ) (b : Bool) (x : Option (List ℕ)) → Spans m l x → Spans m l (cond b x None)
if-spans m l true x h = h
if-spans m l false x h = tt

-- The lines of the parameters and of the number of ticks are not over-long.
pub parameters-short : (l ps : List ℕ) → parameters_of l ≡ Some ps → length l < line_limit
unfolding parameters_of
parameters-short l ps e =
    let rest = after_head parameters_head l in
    let most : length rest ≤ 63 =
    subst (Spans 63 rest) e
    (if-spans 63 rest (has_prefix parameters_head l) (numbers last_parameter [] rest)
    (numbers-span last_parameter [] rest)) in
    omega (arith, most, length-drop (length parameters_head) l)

abbrev Counts : ℕ → List ℕ → Option ℕ → Type 0
Counts m l (Some k) = length l ≤ m
Counts m l None = Unit {0}

wholly-counts : (l : List ℕ) (p : Parsed ℕ) → Takes 7 l p → Counts 7 l (wholly p)
unfolding wholly
wholly-counts l none h = tt
wholly-counts l (done v []) h = omega arith
wholly-counts l (done v (b ∷ r)) h = tt

-- A number that ends a line, up to at most 999,999, has at most seven bytes.
pub last-short : (max : ℕ) → max ≤ last_literal → (l : List ℕ) (k : ℕ) → wholly (number max l) ≡ Some k → length l ≤ 7
last-short max h l k e = subst (Counts 7 l) e (wholly-counts l (number max l) (number-takes max h l))

if-counts : (m : ℕ) (l : List ℕ) (b : Bool) (x : Option ℕ) → Counts m l x → Counts m l (cond b x None)
if-counts m l true x h = h
if-counts m l false x h = tt

pub count-short : (l : List ℕ) (k : ℕ) → count_of l ≡ Some k → length l < line_limit
unfolding count_of
count-short l k e =
    let rest = after_head count_head l in
    let most : length rest ≤ 7 =
    subst (Counts 7 rest) e
    (if-counts 7 rest (has_prefix count_head l) (wholly (number last_literal rest))
    (wholly-counts rest (number last_literal rest) (literal-takes rest))) in
    omega (arith, most, length-drop (length count_head) l)
