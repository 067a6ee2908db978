-- What inner functions answer that read a value at a place of some bytes, and the table of hexadecimal digits that they
-- are lent. Definitions only.
use Rattle.std.specs.Prelude.{cond, List, [], ◌∷◌, Option, Some, None, ◌≡◌, ℕ, zero, suc, ◌+◌, ◌≤◌, eqb, ltb, length}
use Rattle.std.specs.Prelude.{take, drop}
use Rattle.lists.specs.Line.{line}
use Rattle.cards.specs.Heads.{plain_edition}
use Rattle.cards.specs.Numbers.{Parsed}
use Rattle.cards.specs.Numbers.Parsed.{done, none}
use Rattle.cards.specs.Ticks.{line_of, hex_of, tick_length, plain_tick, velocity_in, tick_line}
use Rattle.cards.specs.declared.Found.{Found}
use Rattle.cards.specs.declared.TickLine.{TickLine}

-- How many values a byte has.
abbrev pub byte_count : ℕ
byte_count = 256

-- The values of m bytes as hexadecimal digits (SPEC 10.6), from the byte b on; and of all bytes.
unfoldable pub hexes_from : ℕ → ℕ → List ℕ
hexes_from zero b = []
hexes_from (suc m) b = hex_of b ∷ hexes_from m (suc b)

abbrev pub hex_table : List ℕ
hex_table = hexes_from byte_count 0

-- The value of a byte that is a hexadecimal digit.
abbrev pub digit_is : ℕ → Option ℕ
digit_is b = cond (ltb 15 (hex_of b)) None (Some (hex_of b))

-- What the code's answer says: the value, and what stands from `next` on.
abbrev pub read_to : {A : Type 0} → Option (Found A) → List ℕ → Parsed A
read_to (Some f) s = done f.value (drop f.next s)
read_to None s = none

abbrev pub next_in : {A : Type 0} → Option (Found A) → ℕ → ℕ
next_in (Some f) n = f.next
next_in None n = n

-- The answer r says p of the bytes s.
pub record ReadsAs {A : Type 0} (r : Option (Found A)) (s : List ℕ) (p : Parsed A) : Type 0 where
  pub means : read_to r s ≡ p
  pub within : next_in r (length s) ≤ length s

-- The tick of an edition at the front of some bytes, and the bytes after it: a line with no velocity, and in another
-- edition than the one whose lines have none the velocity behind it.
abbrev pub plain_read : Option TickLine → List ℕ → Parsed TickLine
plain_read (Some t) l = done t l
plain_read None l = none

abbrev pub struck_read : Option TickLine → Parsed ℕ → Parsed TickLine
struck_read (Some t) (done v l) = done (line_of t.start t.signals v) l
struck_read (Some t) none = none
struck_read None p = none

unfoldable pub tick_read : ℕ → ℕ → List ℕ → Parsed TickLine
tick_read velocities e l =
    cond (eqb e plain_edition)
    (plain_read (plain_tick (take tick_length l)) (drop tick_length l))
    (struck_read (plain_tick (take tick_length l)) (velocity_in velocities (drop tick_length l)))

-- The tick line at the front of these bytes, where it is there with its byte 10.
unfoldable pub tick_first : ℕ → ℕ → List ℕ → Option TickLine
tick_first velocities e s = cond (ltb (length (line s)) (length s)) (tick_line velocities e (line s)) None

-- The same as the code's answer, where the line stands at a place: its byte 10 is the last before `next`.
abbrev pub found_as : ℕ → Option TickLine → Option (Found TickLine)
found_as next (Some t) = Some (record { value = t; next = next })
found_as next None = None

abbrev pub tick_at : ℕ → ℕ → List ℕ → ℕ → Option (Found TickLine)
tick_at velocities e s at = found_as (at + length (line (drop at s)) + 1) (tick_first velocities e (drop at s))
