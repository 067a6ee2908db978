-- What is known of a tick line that was read (specs/Ticks.antt), in any edition: its first bytes are a line with no
-- velocity, its velocity is one of those that there are, and it is short. Assumes nothing.
use mathlib.Core.Path.{◌≡◌, refl, ◌∙◌, ap, subst}
use mathlib.Core.Bool.{Bool, true, false, cond}
use mathlib.Core.List.{List, [], ◌∷◌}
use Prim.Native.Nat.{ℕ, ◌+◌, ◌*◌, ◌≤◌, ◌<◌}
use native.Mathlib.Omega.{arith}
use lib.Dec.{eqb, ltb}
use lib.ListN.{length, get_or, take, drop, length-take, length-drop}
use lib.Seq.{take_all}
use Rattle.std.specs.Prelude.{Option, Some, None}
use Rattle.limits.specs.Limits.{line_limit}
use Rattle.lists.specs.Decimal.{digit_value}
use Rattle.lists.specs.Text.{byte}
use Rattle.cards.specs.Heads.{plain_edition}
use Rattle.cards.specs.Numbers.{wholly}
use Rattle.cards.specs.Ticks.{line_of, tick_is, hex_of, hexes, tick_length, plain_tick, velocity_in, struck_by}
use Rattle.cards.specs.Ticks.{struck_tick, tick_line}
use Rattle.cards.specs.declared.TickLine.{TickLine}
use Rattle.cards.proofs.Hex.{passed, not-failed, plain-length}
use Rattle.cards.proofs.Velocities.{velocity-last}

-- A line with no velocity has velocity 0.
hexes-velocity : (start x : ℕ) (l : List ℕ) {k : TickLine} → hexes start x l ≡ Some k → k.velocity ≡ 0
unfolding hexes
hexes-velocity start x [] e = cc
hexes-velocity start x (b ∷ l) e =
    hexes-velocity start (x * 16 + hex_of b) l (not-failed (ltb 15 (hex_of b)) e).1

pub plain-velocity : (l : List ℕ) {k : TickLine} → plain_tick l ≡ Some k → k.velocity ≡ 0
unfolding plain_tick
plain-velocity l e =
    let t = passed (eqb (get_or l 0 0) (byte "t")) (passed (eqb (length l) tick_length) e).1 in
    let comma = passed (eqb (get_or l 3 0) (byte ",")) (passed (eqb (get_or l 1 0) (byte "=")) t.1).1 in
    let start = not-failed (ltb (byte "1") (get_or l 2 0)) (not-failed (ltb (get_or l 2 0) (byte "0")) comma.1).1 in
    hexes-velocity (digit_value (get_or l 2 0)) 0 (drop 4 l) start.1

-- The line l has these numbers.
pub record Ticked (velocities : ℕ) (l : List ℕ) (k : TickLine) : Type 0 where
  pub front : plain_tick (take tick_length l) ≡ tick_is k.start k.signals 0
  pub low : 0 < velocities → k.velocity < velocities
  pub short : length l < line_limit

module _ {velocities : ℕ} {l : List ℕ} {k : TickLine} (h : Ticked velocities l k) where
  pub ticked-long : tick_length ≤ length l
  ticked-long = omega (arith, length-take tick_length l, plain-length (take tick_length l) h.front)

plain-ticked : (velocities : ℕ) (l : List ℕ) {k : TickLine} → plain_tick l ≡ Some k → Ticked velocities l k
plain-ticked velocities l {k} e =
    let whole = plain-length l e in
    let none = plain-velocity l e in
    record {
      front = ap plain_tick (take_all tick_length l (omega (arith, whole))) ∙ e ∙ ap (tick_is k.start k.signals) none;
      low = λ p. omega (arith, none);
      short = omega (arith, whole);
    }

-- A line with a velocity: its front, and the velocity at its end.
struck-by : (t : Option TickLine) (v : Option ℕ) {k : TickLine} → struck_by t v ≡ Some k
    → (none : ℕ) × (t ≡ tick_is k.start k.signals none) × (v ≡ Some k.velocity)
struck-by (Some t) (Some v) e =
    let z : line_of t.start t.signals v ≡ _ = cc in
    subst
    (λ (k : TickLine).
    (none : ℕ) × (◌≡◌ {A = Option TickLine} (Some t) (tick_is k.start k.signals none)) × (Some v ≡ Some k.velocity)) z
    (t.velocity, refl, refl)
struck-by (Some t) None e = (0, cc, cc)
struck-by None v e = (0, cc, cc)

struck-ticked : (velocities : ℕ) (l : List ℕ) {k : TickLine} → struck_tick velocities l ≡ Some k
    → Ticked velocities l k
unfolding struck_tick
struck-ticked velocities l {k} e =
    let rest = drop tick_length l in
    let parts = struck-by (plain_tick (take tick_length l)) (wholly (velocity_in velocities rest)) e in
    let front = parts.1 in
    let last = velocity-last velocities rest parts.2 in
    record {
      front = front ∙ ap (tick_is k.start k.signals) (plain-velocity (take tick_length l) front);
      low = λ p. last.0;
      short = omega (arith, last.1, length-drop tick_length l);
    }

pub ticked : (velocities e : ℕ) (l : List ℕ) {k : TickLine} → tick_line velocities e l ≡ Some k
    → Ticked velocities l k
unfolding tick_line
ticked velocities e l {k} h = by-edition (eqb e plain_edition) h
  where
    by-edition : (t : Bool) → cond t (plain_tick l) (struck_tick velocities l) ≡ Some k → Ticked velocities l k
    by-edition true q = plain-ticked velocities l q
    by-edition false q = struck-ticked velocities l q
