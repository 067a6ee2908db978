-- A tick line (SPEC 10.6). Definitions only.
use Rattle.std.specs.Prelude.{◌&&◌, cond, List, [], ◌∷◌, Option, Some, None, ℕ, ◌+◌, ◌-◌, ◌*◌, ltb, leb, eqb}
use Rattle.std.specs.Prelude.{length, take, drop}
use Rattle.limits.specs.Limits.{last_literal}
use Rattle.lists.specs.Decimal.{is_digit, digit_value}
use Rattle.lists.specs.Number.{number_at}
use Rattle.lists.specs.Text.{byte}
use Rattle.cards.specs.Heads.{plain_edition}
use Rattle.cards.specs.Numbers.{Parsed, number, wholly}
use Rattle.cards.specs.Numbers.Parsed.{done, none}
use Rattle.cards.specs.declared.TickLine.{TickLine}

-- A tick line with this start, these signals and this velocity.
abbrev pub line_of : ℕ → ℕ → ℕ → TickLine
line_of start signals velocity = record { start = start; signals = signals; velocity = velocity }

abbrev pub tick_is : ℕ → ℕ → ℕ → Option TickLine
tick_is start signals velocity = Some (line_of start signals velocity)

-- The value of a hexadecimal digit `0` to `9` or `a` to `f` (SPEC 10.6), 16 for any other byte.
unfoldable pub hex_of : ℕ → ℕ
hex_of b =
    cond (is_digit b) (digit_value b)
    (cond (leb (byte "a") b && leb b (byte "f")) (b - byte "a" + 10) 16)

-- The digits that are left, x being the number so far: each digit is worth 16 times the one after it. So the last
-- digit has the bits 0 to 3, and bit j of the number is bit j of the digits.
unfoldable pub hexes : ℕ → ℕ → List ℕ → Option TickLine
hexes start x [] = tick_is start x 0
hexes start x (b ∷ l) = cond (ltb 15 (hex_of b)) None (hexes start (x * 16 + hex_of b) l)

-- A start of 0 or 1, and the digits after the comma.
abbrev pub started : ℕ → List ℕ → Option TickLine
started b l = cond (ltb b (byte "0")) None (cond (ltb (byte "1") b) None (hexes (digit_value b) 0 l))

-- The bytes of a tick line with no velocity, its byte 10 not counted.
abbrev pub tick_length : ℕ
tick_length = 20

-- Such a line has so many bytes: `t=`, the start at place 2, a comma at place 3, 16 digits from place 4 on. Its
-- velocity is 0.
unfoldable pub plain_tick : List ℕ → Option TickLine
plain_tick l =
    cond (eqb (length l) tick_length)
    (cond (eqb (number_at l 0) (byte "t"))
    (cond (eqb (number_at l 1) (byte "="))
    (cond (eqb (number_at l 3) (byte ",")) (started (number_at l 2) (drop 4 l)) None) None) None) None

-- A number that is a velocity (SPEC 1.1): below how many there are.
abbrev pub low_by : ℕ → Parsed ℕ → Parsed ℕ
low_by velocities none = none
low_by velocities (done v l) = cond (ltb v velocities) (done v l) none

-- SPEC 10.6: a comma at the front of some bytes and the velocity behind it, and the bytes after that.
unfoldable pub velocity_in : ℕ → List ℕ → Parsed ℕ
velocity_in velocities [] = none
velocity_in velocities (b ∷ l) = cond (eqb b (byte ",")) (low_by velocities (number last_literal l)) none

-- SPEC 10.6: a tick with this velocity.
abbrev pub struck_by : Option TickLine → Option ℕ → Option TickLine
struck_by (Some t) (Some v) = tick_is t.start t.signals v
struck_by (Some t) None = None
struck_by None k = None

-- SPEC 10.6: a line with a velocity. Its first bytes are a line with none, and the velocity ends it.
unfoldable pub struck_tick : ℕ → List ℕ → Option TickLine
struck_tick velocities l =
    struck_by (plain_tick (take tick_length l)) (wholly (velocity_in velocities (drop tick_length l)))

-- SPEC 10.6: the tick line of an edition.
unfoldable pub tick_line : ℕ → ℕ → List ℕ → Option TickLine
tick_line velocities edition l = cond (eqb edition plain_edition) (plain_tick l) (struck_tick velocities l)
