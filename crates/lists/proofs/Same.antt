-- What the test of two lists (specs/Same.antt) means. Assumes nothing.
use mathlib.Core.Bool.{Bool, true, false, ◌&&◌}
use mathlib.Core.Path.{◌≡◌, refl, ap₂}
use mathlib.Core.List.{List, [], ◌∷◌}
use Prim.Native.Nat.{ℕ}
use lib.Dec.{T, eqb, eqb→eq}
use borrow.Author.Tests.{eq-eqb}
use Rattle.lists.specs.Same.{same}

-- Lists that pass the test are equal.
pub same→eq : (xs ys : List ℕ) → T (same xs ys) → xs ≡ ys
same→eq [] [] h = refl
same→eq [] (y ∷ ys) h = absurd h
same→eq (x ∷ xs) [] h = absurd h
same→eq (x ∷ xs) (y ∷ ys) h = go (eqb x y) (eqb→eq x y) (same→eq xs ys) h
  where
    go : (b : Bool) → (T b → x ≡ y) → (T (same xs ys) → xs ≡ ys) → T (b && same xs ys) → x ∷ xs ≡ y ∷ ys
    go true e rest h = ap₂ ◌∷◌ (e tt) (rest h)
    go false e rest h = absurd h

-- A list is the same as itself.
pub same_refl : (xs : List ℕ) → same xs xs ≡ true
same_refl [] = refl
same_refl (x ∷ xs) = rw (eq-eqb x x refl, same_refl xs)
