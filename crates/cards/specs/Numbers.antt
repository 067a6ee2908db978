-- Decimal numbers on a card, and the lines `k=` (SPEC 10.3) and `ticks=` (SPEC 10.5). Definitions only.
use Rattle.std.specs.Prelude.{Bool, true, false, cond, List, [], ◌∷◌, ◌++◌, Option, Some, None, ℕ, zero, suc, ◌-◌, eqb}
use Rattle.limits.specs.Limits.{last_literal, parameter_count}
use Rattle.lists.specs.Text.{byte}
use Rattle.lists.specs.Decimal.{Numeral, numeral}
use Rattle.lists.specs.Decimal.Numeral.{is, above, missing}
use Rattle.cards.specs.Heads.{parameters_head, count_head, after_head}

-- What stands at the front of some bytes: a value and the bytes after it, or none.
pub data Parsed (A : Type 0) : Type 0 where
  done : A → List ℕ → Parsed A
  none : Parsed A

abbrev pub parsed : Numeral → Parsed ℕ
parsed (is v l) = done v l
parsed (above l) = none
parsed missing = none

-- A number up to max, its digits by SPEC 2.8; in SPEC 10.3 and SPEC 10.5 it is at most 999,999.
unfoldable pub number : ℕ → List ℕ → Parsed ℕ
number max l = parsed (numeral max l)

-- Whether the second text begins with the first.
unfoldable pub has_prefix : List ℕ → List ℕ → Bool
has_prefix [] l = true
has_prefix (x ∷ p) [] = false
has_prefix (x ∷ p) (y ∷ l) = cond (eqb y x) (has_prefix p l) false

-- A value before the byte c, and the bytes after that byte.
unfoldable pub before : {A : Type 0} → ℕ → Parsed A → Parsed A
before c none = none
before c (done v []) = none
before c (done v (b ∷ l)) = cond (eqb b c) (done v l) none

-- A number before a comma.
abbrev pub before_comma : Parsed ℕ → Parsed ℕ
before_comma p = before (byte ",") p

-- What is made of a number and the bytes after it.
abbrev pub then_listed : Parsed ℕ → (ℕ → List ℕ → Option (List ℕ)) → Option (List ℕ)
then_listed none k = None
then_listed (done v l) k = k v l

-- A number at the end of the line, after those that were read.
unfoldable pub at_end : List ℕ → Parsed ℕ → Option (List ℕ)
at_end got none = None
at_end got (done v []) = Some (got ++ (v ∷ []))
at_end got (done v (b ∷ l)) = None

-- m numbers before commas and a last one, after those that were read.
unfoldable pub numbers : ℕ → List ℕ → List ℕ → Option (List ℕ)
numbers zero got l = at_end got (number last_literal l)
numbers (suc m) got l = then_listed (before_comma (number last_literal l)) (λ v r. numbers m (got ++ (v ∷ [])) r)

-- The place of the last parameter.
abbrev pub last_parameter : ℕ
last_parameter = parameter_count - 1

-- SPEC 10.3: the eight parameters.
unfoldable pub parameters_of : List ℕ → Option (List ℕ)
parameters_of l = cond (has_prefix parameters_head l) (numbers last_parameter [] (after_head parameters_head l)) None

-- A value that is all there is.
unfoldable pub wholly : {A : Type 0} → Parsed A → Option A
wholly none = None
wholly (done v []) = Some v
wholly (done v (b ∷ l)) = None

-- SPEC 10.5: how many ticks follow.
unfoldable pub count_of : List ℕ → Option ℕ
count_of l = cond (has_prefix count_head l) (wholly (number last_literal (after_head count_head l))) None
