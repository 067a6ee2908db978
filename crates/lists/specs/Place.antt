-- A decimal number at a place of some bytes: what the function answers that reads one. Definitions only.
use Rattle.std.specs.Prelude.{cond, List, ◌≡◌, ℕ, ◌≤◌, leb, length, drop}
use Rattle.lists.specs.Decimal.{Numeral, numeral}
use Rattle.lists.specs.Decimal.Numeral.{is, above, missing}
use Rattle.lists.specs.declared.Decimal.{Decimal}
use Rattle.lists.specs.declared.Decimal.TheVariants.{Is, Above, Missing}

-- What an answer says of the bytes s, and the place that it names.
abbrev pub numeral_of : List ℕ → Decimal → Numeral
numeral_of s (Is v next) = is v (drop next s)
numeral_of s (Above next) = above (drop next s)
numeral_of s Missing = missing

abbrev pub next_of : Decimal → ℕ
next_of (Is v next) = next
next_of (Above next) = next
next_of Missing = 0

-- The answer for the number v before the place `next`.
abbrev pub settled_at : ℕ → ℕ → ℕ → Decimal
settled_at max v next = cond (leb v max) (Is v next) (Above next)

-- The answer r is the number, up to max, that stands in s at a place.
pub record DecimalAt (s : List ℕ) (at max : ℕ) (r : Decimal) : Type 0 where
  pub means : numeral_of s r ≡ numeral max (drop at s)
  pub within : next_of r ≤ length s
