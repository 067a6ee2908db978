-- Which digit has which signal (SPEC 10.6): of the number that a tick line has, bit 4 · i + b is bit b of the i-th
-- digit from the right. Assumes nothing.
use mathlib.Core.Path.{◌≡◌, refl, ◌∙◌, sym, ap}
use mathlib.Core.Bool.{Bool, true, false}
use mathlib.Core.List.{List, [], ◌∷◌}
use Prim.Native.Nat.{ℕ, zero, suc, ◌+◌, ◌-◌, ◌*◌, ◌/◌, ◌%◌, ◌^◌, ◌≤◌, ◌<◌}
use native.Mathlib.Omega.{arith}
use lib.Dec.{ltb, eqb}
use lib.ListN.{length, get_or, take, drop, length-drop}
use lib.Pow.{high, shr-shr}
use lib.Seq.{get_or-drop, get_or-take}
use borrow.Author.Tests.{eqb-true, ltb-true, ltb-false}
use Rattle.std.specs.Prelude.{Some}
use Rattle.traces.specs.Trace.{bit}
use Rattle.cards.specs.Ticks.{hex_of, hexes, plain_tick, tick_line}
use Rattle.cards.specs.declared.TickLine.{TickLine}
use Rattle.cards.proofs.Hex.{passed, not-failed}
use Rattle.cards.proofs.Ticks.{ticked}

-- One more digit is the four lowest bits, and moves the others up by four.
bit-low : (x d b : ℕ) → b < 4 → bit (x * 16 + d) b ≡ bit d b
bit-low x d zero h = omega arith
bit-low x d (suc zero) h = omega arith
bit-low x d (suc (suc zero)) h = omega arith
bit-low x d (suc (suc (suc zero))) h = omega arith
bit-low x d (suc (suc (suc (suc b)))) h = absurd (omega arith)

bit_high : (x d k : ℕ) → d ≤ 15 → bit (x * 16 + d) (4 + k) ≡ bit x k
bit_high x d k h =
    ap (λ (n : ℕ). n % 2)
    (sym (shr-shr (x * 16 + d) 4 k) ∙ ap (λ (n : ℕ). n / 2 ^ k) (high x 4 {lo = d} (omega arith)))

-- The digits l after the number x make the number y.
record Digits (l : List ℕ) (x y : ℕ) : Type 0 where
  inside : (i b : ℕ) → i < length l → b < 4 → bit y (4 * i + b) ≡ bit (hex_of (get_or l (length l - 1 - i) 0)) b
  above : (k : ℕ) → bit y (4 * length l + k) ≡ bit x k

module _ (c : ℕ) (l : List ℕ) (x y : ℕ) (small : hex_of c ≤ 15) (h : Digits l (x * 16 + hex_of c) y) where
  digit : (i b : ℕ) → i < suc (length l) → b < 4 → (t : Bool) → ltb i (length l) ≡ t
      → bit y (4 * i + b) ≡ bit (hex_of (get_or (c ∷ l) (suc (length l) - 1 - i) 0)) b
  digit i b p q true e =
      let g : i < length l = ltb-true _ _ e in
      let z : suc (length l) - 1 - i ≡ suc (length l - 1 - i) = omega arith in
      rw z (h.inside i b g q)
  digit i b p q false e =
      let g : length l ≤ i = ltb-false _ _ e in
      let z : suc (length l) - 1 - i ≡ 0 = omega arith in
      let w : 4 * i + b ≡ 4 * length l + b = omega arith in
      rw z (ap (bit y) w ∙ h.above b ∙ bit-low x (hex_of c) b q)

  more : Digits (c ∷ l) x y
  more =
      record {
        inside = λ i b p q. digit i b p q (ltb i (length l)) refl;
        above = λ k.
            let z : 4 * suc (length l) + k ≡ 4 * length l + (4 + k) = omega arith in
            ap (bit y) z ∙ h.above (4 + k) ∙ bit_high x (hex_of c) k small;
      }

split : (c : ℕ) (l : List ℕ) (s x : ℕ) {k : TickLine} (t : Bool) → ltb 15 (hex_of c) ≡ t
    → ((z : ℕ) → hexes s z l ≡ Some k → Digits l z k.signals) → hexes s x (c ∷ l) ≡ Some k
    → Digits (c ∷ l) x k.signals
unfolding hexes
split c l s x true e ih h = absurd (let z = rw e at h in cc)
split c l s x {k} false e ih h = more c l x k.signals (ltb-false _ _ e) (ih (x * 16 + hex_of c) (rw e at h))

made : (l : List ℕ) (s x : ℕ) {k : TickLine} → hexes s x l ≡ Some k → Digits l x k.signals
unfolding hexes
made [] s x {k} e =
    let z : x ≡ k.signals = cc in
    record {
      inside = λ i b p q. absurd (omega arith);
      above = λ j. let w : 0 + j ≡ j = omega arith in rw w (ap (λ (n : ℕ). bit n j) (sym z));
    }
made (c ∷ l) s x e = split c l s x (ltb 15 (hex_of c)) refl (λ z. made l s z) e

-- In a line with no velocity, and in the tick line of any edition.
plain-bits : (l : List ℕ) {k : TickLine} → plain_tick l ≡ Some k → (i b : ℕ) → i < 16 → b < 4
    → bit k.signals (4 * i + b) ≡ bit (hex_of (get_or l (19 - i) 0)) b
unfolding plain_tick
plain-bits l e i b p q =
    let size = passed (eqb (length l) 20) e in
    let t = passed (eqb (get_or l 0 0) 116) size.1 in
    let equals = passed (eqb (get_or l 1 0) 61) t.1 in
    let comma = passed (eqb (get_or l 3 0) 44) equals.1 in
    let start = not-failed (ltb 49 (get_or l 2 0)) (not-failed (ltb (get_or l 2 0) 48) comma.1).1 in
    let twenty : length l ≡ 20 = eqb-true _ _ size.0 in
    let sixteen : length (drop 4 l) ≡ 16 = omega (arith, length-drop 4 l) in
    let digits = made (drop 4 l) (get_or l 2 0 - 48) 0 start.1 in
    let z : 4 + (length (drop 4 l) - 1 - i) ≡ 19 - i = omega arith in
    digits.inside i b (omega arith) q
    ∙ ap (λ (c : ℕ). bit (hex_of c) b)
    (get_or-drop 4 l (length (drop 4 l) - 1 - i) 0 ∙ ap (λ (n : ℕ). get_or l n 0) z)

pub signal-bits : (velocities e : ℕ) (l : List ℕ) {k : TickLine} → tick_line velocities e l ≡ Some k
    → (i b : ℕ) → i < 16 → b < 4 → bit k.signals (4 * i + b) ≡ bit (hex_of (get_or l (19 - i) 0)) b
signal-bits velocities e l h i b p q =
    plain-bits (take 20 l) (ticked velocities e l h).front i b p q
    ∙ ap (λ (c : ℕ). bit (hex_of c) b) (get_or-take 20 l (19 - i) 0 (omega arith))
