-- Decimal numbers in a text. Definitions only.
use Rattle.std.specs.Prelude.{Bool, ◌&&◌, cond, List, [], ◌∷◌, ℕ, ◌+◌, ◌-◌, ◌*◌, eqb, leb}
use Rattle.lists.specs.Text.{byte}

-- What stands at the front of some bytes: a number and the bytes after it; a number above the highest that is asked
-- for, and the bytes after it; or no number.
pub data Numeral : Type 0 where
  is : ℕ → List ℕ → Numeral
  above : List ℕ → Numeral
  missing : Numeral

-- `0` to `9`
unfoldable pub is_digit : ℕ → Bool
is_digit b = leb (byte "0") b && leb b (byte "9")

-- The byte of a digit, and a digit's value.
abbrev pub digit : ℕ → ℕ
digit d = byte "0" + d

abbrev pub digit_value : ℕ → ℕ
digit_value b = b - byte "0"

-- The number v, before the bytes l.
abbrev pub settled : ℕ → ℕ → List ℕ → Numeral
settled max v l = cond (leb v max) (is v l) (above l)

-- The digits that are left, after those of v.
unfoldable pub digits_after : ℕ → ℕ → List ℕ → Numeral
digits_after max v [] = settled max v []
digits_after max v (b ∷ l) =
    let more = digits_after max (v * 10 + digit_value b) l in
    cond (is_digit b) more (settled max v (b ∷ l))

-- The number at the front, up to max. SPEC 2.8: after a first digit 0 no digit is read.
unfoldable pub numeral : ℕ → List ℕ → Numeral
numeral max [] = missing
numeral max (b ∷ l) = cond (eqb b (byte "0")) (is 0 l) (cond (is_digit b) (digits_after max (digit_value b) l) missing)
