-- Forms at the front of a text: how they are taken off, and what follows them. Definitions only; no public
-- contract names them. The reader walks a text by them, and a table's text is shown to determine the table by them.
use Rattle.std.specs.Prelude.{cond, List, [], ◌∷◌, ℕ, eqb}
use Rattle.lists.specs.Decimal.{Numeral, numeral}
use Rattle.lists.specs.Decimal.Numeral.{is, above, missing}
use Rattle.limits.specs.Limits.{last_literal}
use Rattle.lustre.specs.Form.{letter?, put}
use Rattle.tables.specs.declared.Equation.{Equation}

-- A form at the front of a text: the equation with the numbers found at its letters, and what follows it.
pub data Scanned : Type 0 where
  unlike : Scanned
  scanned : Equation → List ℕ → Scanned

abbrev pub after_number : Numeral → (ℕ → List ℕ → Scanned) → Scanned
after_number (is v r) k = k v r
after_number (above r) k = unlike
after_number missing k = unlike

abbrev pub after_byte : ℕ → List ℕ → (List ℕ → Scanned) → Scanned
after_byte x [] k = unlike
after_byte x (y ∷ r) k = cond (eqb x y) (k r) unlike

unfoldable pub scan : List ℕ → List ℕ → Equation → Scanned
scan [] l e = scanned e l
scan (x ∷ f) l e =
    cond (letter? x) (after_number (numeral last_literal l) (λ v r. scan f r (put e x v)))
    (after_byte x l (λ r. scan f r e))
