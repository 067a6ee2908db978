-- How hexadecimal digits (specs/Ticks.antt) go on at a place of a line, that sixteen of them fit 64 bits, and the table
-- of their values. Assumes nothing.
use mathlib.Core.Path.{◌≡◌, refl, ◌∙◌, sym, ap}
use mathlib.Core.Bool.{Bool, true, false, cond}
use mathlib.Core.List.{List}
use Prim.Native.Nat.{ℕ, zero, suc, ◌+◌, ◌*◌, ◌^◌, ◌≤◌, ◌<◌}
use native.Mathlib.Omega.{arith}
use native.Mathlib.Nat.{add-zero, zero-add, pow-suc, pow-le-pow_right}
use native.Mathlib.Numerals.{add-one}
use lib.Dec.{eqb, ltb}
use lib.ListN.{length, get_or, set, replicate, take, drop, length-drop, drop_of_length-le}
use lib.Seq.{drop-cons, take_all}
use borrow.Author.Tests.{eq-eqb, le-ltb, lt-leb, ltb-false, eqb-true}
use Rattle.std.specs.Prelude.{Option, Some, None}
use Rattle.lists.specs.Text.{byte, bytes}
use Rattle.lists.specs.Decimal.{is_digit, digit_value}
use Rattle.cards.specs.Ticks.{tick_is, hex_of, hexes, tick_length, plain_tick}
use Rattle.cards.specs.Place.{byte_count, hexes_from, hex_table, digit_is}
use Rattle.cards.specs.declared.TickLine.{TickLine}

-- With k digits the number is below 16 to the power of k, so that sixteen fit.
room : (p x d : ℕ) → x < p → d ≤ 15 → x * 16 + d < p * 16
room p x d h e = omega arith

grows : (k x d : ℕ) → x < 16 ^ k → d ≤ 15 → x * 16 + d < 16 ^ (k + 1)
grows k x d h e = rw (add-one k, pow-suc 16 k) (room (16 ^ k) x d h e)

fits64 : (k x d : ℕ) → k ≤ 15 → x < 16 ^ k → d ≤ 15 → x * 16 + d < 18446744073709551616
fits64 k x d z h e =
    let l : 16 ^ k ≤ 16 ^ 15 = pow-le-pow_right (omega arith) z in
    omega (arith, room (16 ^ k) x d h e)

-- A byte below the first digit is none.
pub hex-low : (b : ℕ) → b < byte "0" → hex_of b ≡ 16
unfolding hex_of is_digit
hex-low b h = rw (lt-leb (byte "0") b h, lt-leb (byte "a") b (omega arith))

-- A line that is not broken passes each of its tests.
module _ {k : TickLine} where
  pub passed : (t : Bool) {a : Option TickLine} → cond t a None ≡ Some k → (t ≡ true) × (a ≡ Some k)
  passed true e = (refl, e)
  passed false e = (cc, cc)

  pub not-failed : (t : Bool) {a : Option TickLine} → cond t None a ≡ Some k → (t ≡ false) × (a ≡ Some k)
  not-failed true e = (cc, cc)
  not-failed false e = (refl, e)

pub plain-length : (l : List ℕ) {k : TickLine} → plain_tick l ≡ Some k → length l ≡ tick_length
unfolding plain_tick
plain-length l e = eqb-true _ _ (passed (eqb (length l) tick_length) e).0

-- A line that is well made up to its digits.
pub tick_digits : (s : List ℕ) → length s ≡ tick_length → get_or s 0 0 ≡ byte "t" → get_or s 1 0 ≡ byte "="
    → get_or s 3 0 ≡ byte "," → byte "0" ≤ get_or s 2 0 → get_or s 2 0 ≤ byte "1"
    → hexes (digit_value (get_or s 2 0)) 0 (take 16 (drop 4 s)) ≡ plain_tick s
unfolding plain_tick
tick_digits s l a b c lo hi =
    let all : take 16 (drop 4 s) ≡ drop 4 s = take_all 16 (drop 4 s) (omega (arith, length-drop 4 s)) in
    rw (all, eq-eqb _ _ l, eq-eqb _ _ a, eq-eqb _ _ b, eq-eqb _ _ c, le-ltb _ _ lo, le-ltb _ _ hi)

-- The loop of `plain_line`: the digits l from place i on, after those that made x, read as the line s does.
pub record Hexing (s l : List ℕ) (start x i : ℕ) : Type 0 where
  pub rest : hexes start x (drop i l) ≡ plain_tick s
  pub below : x < 16 ^ i

digit_low : (b : ℕ) {d : ℕ} → digit_is b ≡ Some d → (d ≤ 15) × (d ≡ hex_of b) × (ltb 15 (hex_of b) ≡ false)
digit_low b {d} e = by_test (ltb 15 (hex_of b)) refl e
  where
    by_test : (t : Bool) → ltb 15 (hex_of b) ≡ t → cond t None (Some (hex_of b)) ≡ Some d
        → (d ≤ 15) × (d ≡ hex_of b) × (t ≡ false)
    by_test true z q = (cc, cc, cc)
    by_test false z q = let is : d ≡ hex_of b = cc in (omega (arith, ltb-false _ _ z), is, refl)

no_digit : (b : ℕ) → digit_is b ≡ None → ltb 15 (hex_of b) ≡ true
no_digit b e = by_test (ltb 15 (hex_of b)) e
  where
    by_test : (t : Bool) → cond t None (Some (hex_of b)) ≡ None → t ≡ true
    by_test true q = refl
    by_test false q = cc

module _ {s l : List ℕ} {start x i : ℕ} (k : Hexing s l start x i) where
  pub hexing_end : length l ≤ i → tick_is start x 0 ≡ plain_tick s
  unfolding hexes
  hexing_end h = rw (drop_of_length-le l h) at k.rest

  module _ (h : i < length l) where
    pub hexing_none : digit_is (get_or l i 0) ≡ None → None ≡ plain_tick s
    unfolding hexes
    hexing_none e = rw (drop-cons l i 0, no_digit _ e) at k.rest

    module _ {d : ℕ} (e : digit_is (get_or l i 0) ≡ Some d) where
      pub hexing_fits : i ≤ 15 → x * 16 + d < 18446744073709551616
      hexing_fits g = fits64 i x d g k.below (digit_low _ e).0

      pub hexing_more : Hexing s l start (x * 16 + d) (i + 1)
      unfolding hexes
      hexing_more =
          let low = digit_low _ e in
          record {
            rest = rw (low.1, add-one i) (rw (drop-cons l i 0, low.2) at k.rest);
            below = grows i x d k.below low.0;
          }

pub ruleset hexing = (tick_digits, hexing_end, hexing_none, hexing_fits, hexing_more)

-- ---- the table of digits

-- All bytes are no digits but for the first k of these.
unfoldable pub filled : List ℕ → ℕ → List ℕ
filled ds zero = replicate byte_count 16
filled ds (suc k) = set (filled ds k) (get_or ds k 0) k

pub filled_more : (ds hex : List ℕ) (k : ℕ) → hex ≡ filled ds k → set hex (get_or ds k 0) k ≡ filled ds (k + 1)
unfolding filled
filled_more ds hex k e = rw (add-one k, e)

-- The sixteen digits.
abbrev digit_bytes : List ℕ
digit_bytes = bytes "0123456789abcdef"

-- With all of them it is the table.
pub filled_all : filled digit_bytes 16 ≡ hex_table
unfolding filled hexes_from hex_of is_digit
filled_all = refl

-- Its values.
from_at : (m b k : ℕ) → k < m → get_or (hexes_from m b) k 0 ≡ hex_of (b + k)
unfolding hexes_from
from_at zero b k h = absurd (omega arith)
from_at (suc m) b zero h = ap hex_of (sym (add-zero b))
from_at (suc m) b (suc k) h =
    let z : suc b + k ≡ b + suc k = omega arith in
    from_at m (suc b) k (omega arith) ∙ ap hex_of z

pub table_at : (b : ℕ) → b < byte_count → get_or hex_table b 0 ≡ hex_of b
table_at b h = from_at byte_count 0 b h ∙ ap hex_of (zero-add b)
