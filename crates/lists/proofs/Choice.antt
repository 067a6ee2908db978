-- A choice between two values by a test, and the last of the choices by a number. Assumes nothing.
use mathlib.Core.Bool.{Bool, true, false, cond}
use mathlib.Core.Path.{◌≡◌, refl}
use Prim.Native.Nat.{ℕ, zero, suc, ◌≤◌}
use native.Mathlib.Omega.{arith}

-- A test does not both pass and fail.
pub false-true : false ≡ true → ⊥
false-true e = let z : ◌≡◌ {A = ℕ} 0 1 = cc in omega arith

-- It has a property that both values have where they are chosen.
pub chosen : {A : Type 0} (P : A → Type 0) (b : Bool) {x y : A} → (b ≡ true → P x) → (b ≡ false → P y) → P (cond b x y)
chosen P true f g = f refl
chosen P false f g = g refl

-- k is none of the first m numbers, as the last arm of a match knows it.
abbrev pub NoneOf : ℕ → ℕ → Type 0
NoneOf k zero = Unit {0}
NoneOf k (suc m) = NoneOf k m × (k ≡ m → ⊥)

pub none_below : (k m : ℕ) → NoneOf k m → m ≤ k
none_below k zero h = omega arith
none_below k (suc m) h = let l = none_below k m h.0 in let d = h.1 in omega arith
