-- Scanning forms at a place of the text, byte by byte. Assumes nothing.
use mathlib.Core.Path.{◌≡◌, refl, ◌∙◌, sym, ap}
use mathlib.Core.Bool.{Bool, true, false, cond}
use mathlib.Core.List.{List, [], ◌∷◌}
use Prim.Native.Nat.{ℕ, ◌+◌, ◌≤◌, ◌<◌}
use lib.Dec.{eqb}
use lib.ListN.{length, drop, get_or, drop_of_length-le}
use borrow.Author.Tests.{eq-eqb, ne_eqb}
use Rattle.lists.specs.Decimal.{Numeral, numeral}
use Rattle.lists.specs.Decimal.Numeral.{is, above, missing}
use Rattle.lists.specs.Place.{DecimalAt}
use Rattle.lists.specs.declared.Decimal.{Decimal}
use Rattle.lists.specs.declared.Decimal.TheVariants.{Is, Above, Missing}
use Rattle.lists.proofs.Buffers.{drop_more}
use Rattle.limits.specs.Limits.{last_literal}
use Rattle.tables.specs.declared.Equation.{Equation}
use Rattle.lustre.specs.Form.{letter?, put}
use Rattle.lustre.specs.Scan.{Scanned, after_number, after_byte, scan}
use Rattle.lustre.specs.Scan.Scanned.{unlike, scanned}
use Rattle.lustre_read.specs.Inner.{scan_piece}

-- One byte of a form at p.
module _ (x : ℕ) (l : List ℕ) (p : ℕ) (e : Equation) where
  pub piece_number : (v q : ℕ) (s : Equation) → letter? x ≡ true → DecimalAt l p last_literal (Is v q) → s ≡ put e x v
      → scanned s (drop q l) ≡ scan_piece x (drop p l) e
  unfolding scan_piece
  piece_number v q s h k m = rw (h, ← k.means, m)

  pub piece_none : (r : Decimal) → letter? x ≡ true → DecimalAt l p last_literal r
      → ((v q : ℕ) → r ≡ Is v q → ⊥) → unlike ≡ scan_piece x (drop p l) e
  unfolding scan_piece
  piece_none (Is v q) h k d = absurd (d v q refl)
  piece_none (Above q) h k d = rw (h, ← k.means)
  piece_none Missing h k d = rw (h, ← k.means)

  pub piece_end : letter? x ≡ false → length l ≤ p → unlike ≡ scan_piece x (drop p l) e
  unfolding scan_piece
  piece_end h g = rw (h, drop_of_length-le l g)

  pub piece_other : letter? x ≡ false → p < length l → (get_or l p 0 ≡ x → ⊥) → unlike ≡ scan_piece x (drop p l) e
  unfolding scan_piece
  piece_other h g d = rw (h, drop_more l p g, ne_eqb x (get_or l p 0) (λ q. d (sym q)))

  pub piece_same : letter? x ≡ false → p < length l → get_or l p 0 ≡ x
      → scanned e (drop (p + 1) l) ≡ scan_piece x (drop p l) e
  unfolding scan_piece
  piece_same h g d = rw (h, drop_more l p g, eq-eqb x (get_or l p 0) (sym d))

-- All of these.
pub ruleset pieces = (piece_number, piece_none, piece_end, piece_other, piece_same)

-- One byte of a form, and then the rest of it.
abbrev go_on : Scanned → List ℕ → Scanned
go_on unlike f = unlike
go_on (scanned e l) f = scan f l e

scan_step : (x : ℕ) (f l : List ℕ) (e : Equation) → scan (x ∷ f) l e ≡ go_on (scan_piece x l e) f
unfolding scan scan_piece
scan_step x f l e = go (letter? x) (numeral last_literal l) l
  where
    at_byte : (b : Bool) (k : List ℕ) → cond b (scan f k e) unlike ≡ go_on (cond b (scanned e k) unlike) f
    at_byte true k = refl
    at_byte false k = refl

    go : (b : Bool) (n : Numeral) (k : List ℕ)
        → cond b (after_number n (λ v r. scan f r (put e x v))) (after_byte x k (λ r. scan f r e))
        ≡ go_on (cond b (after_number n (λ v r. scanned (put e x v) r)) (after_byte x k (λ r. scanned e r))) f
    go true (is v r) k = refl
    go true (above r) k = refl
    go true missing k = refl
    go false n [] = refl
    go false n (y ∷ k) = at_byte (eqb x y) k

-- The bytes of a form from j on, at p.
module _ (f l : List ℕ) (j p : ℕ) (e : Equation) where
  steps : j < length f → go_on (scan_piece (get_or f j 0) (drop p l) e) (drop (j + 1) f) ≡ scan (drop j f) (drop p l) e
  steps h =
      sym (ap (λ (k : List ℕ). scan k (drop p l) e) (drop_more f j h)
      ∙ scan_step (get_or f j 0) (drop (j + 1) f) (drop p l) e)

  pub scan_goes : (q : ℕ) (m : Equation) → j < length f → scanned m (drop q l) ≡ scan_piece (get_or f j 0) (drop p l) e
      → scan (drop (j + 1) f) (drop q l) m ≡ scan (drop j f) (drop p l) e
  scan_goes q m h g = ap (λ (s : Scanned). go_on s (drop (j + 1) f)) g ∙ steps h

  pub scan_stuck : j < length f → unlike ≡ scan_piece (get_or f j 0) (drop p l) e → unlike
      ≡ scan (drop j f) (drop p l) e
  scan_stuck h g = ap (λ (s : Scanned). go_on s (drop (j + 1) f)) g ∙ steps h

  pub scan_ends : length f ≤ j → scanned e (drop p l) ≡ scan (drop j f) (drop p l) e
  unfolding scan
  scan_ends h = rw (drop_of_length-le f h)

-- All of these.
pub ruleset forms = (scan_goes, scan_stuck, scan_ends)
