-- A run is a word that is as long and that it begins with. Assumes nothing.
use mathlib.Core.Bool.{Bool, true, false, ◌&&◌}
use mathlib.Core.List.{List, [], ◌∷◌}
use mathlib.Core.Path.{◌≡◌, refl, sym}
use Prim.Native.Nat.{ℕ}
use native.Mathlib.Omega.{arith}
use lib.Dec.{eqb}
use lib.ListN.{length, take}
use borrow.Author.Tests.{eqb-true, eqb-false, ne_eqb, eq-eqb}
use Rattle.std.specs.Cmp.Lexicographic.{pointwise}
use Rattle.lists.specs.Same.{same}

-- As long,
pub begins_same : (r w : List ℕ) → length r ≡ length w → pointwise eqb w (take (length w) r) ≡ same r w
begins_same [] [] h = refl
begins_same [] (c ∷ w) h = absurd (omega arith)
begins_same (b ∷ r) [] h = absurd (omega arith)
begins_same (b ∷ r) (c ∷ w) h = split (eqb c b) refl (begins_same r w (omega arith))
  where
    split : (t : Bool) → eqb c b ≡ t → pointwise eqb w (take (length w) r) ≡ same r w
        → (eqb c b && pointwise eqb w (take (length w) r)) ≡ (eqb b c && same r w)
    split true e g = rw (e, eq-eqb b c (sym (eqb-true c b e))) g
    split false e g = rw (e, ne_eqb b c (λ z. eqb-false c b e (sym z))) refl

-- and of another length.
pub unlike : (r w : List ℕ) → (length r ≡ length w → ⊥) → same r w ≡ false
unlike [] [] h = absurd (h refl)
unlike [] (c ∷ w) h = refl
unlike (b ∷ r) [] h = refl
unlike (b ∷ r) (c ∷ w) h = rest (eqb b c) (unlike r w (λ e. h (omega arith)))
  where
    rest : (t : Bool) → same r w ≡ false → (t && same r w) ≡ false
    rest true g = g
    rest false g = refl

pub ruleset spelling = (begins_same, unlike)
