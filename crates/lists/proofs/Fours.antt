-- A list taken by fours: what is left of it at a place. Assumes nothing.
use mathlib.Core.List.{List, ◌∷◌}
use mathlib.Core.Path.{◌≡◌}
use Prim.Native.Nat.{ℕ, suc, ◌+◌, ◌≤◌, ◌<◌}
use native.Mathlib.Numerals.{add-one, add-two, add-three, add-four}
use native.Mathlib.Omega.{arith}
use lib.ListN.{drop, length, length-drop}
use lib.Seq.{drop-cons}
use Rattle.lists.specs.Number.{number_at}

-- Four numbers and what is left after them,
pub four : (l : List ℕ) (i : ℕ) → i + 4 ≤ length l →
    drop i l ≡ number_at l i ∷ number_at l (i + 1) ∷ number_at l (i + 2) ∷ number_at l (i + 3) ∷ drop (i + 4) l
four l i h =
    let at-0 : i < length l = omega arith in
    let at_1 : suc i < length l = omega arith in
    let at-2 : suc (suc i) < length l = omega arith in
    let at-3 : suc (suc (suc i)) < length l = omega arith in
    rw (
      add-one i,
      add-two i,
      add-three i,
      add-four i,
      drop-cons l i 0 at-0,
      drop-cons l (suc i) 0 at_1,
      drop-cons l (suc (suc i)) 0 at-2,
      drop-cons l (suc (suc (suc i))) 0 at-3,
    )

-- or less than four.
pub short : (l : List ℕ) (i : ℕ) → length l < i + 4 → length (drop i l) < 4
short l i h = rw (length-drop i l) (omega arith)
