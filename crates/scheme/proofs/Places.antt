-- Equations that stand one after the other from a place on, and in a table of numbers. Assumes nothing.
use mathlib.Core.List.{List, [], ◌∷◌, ◌++◌}
use mathlib.Core.Path.{◌≡◌, refl}
use Prim.Native.Nat.{ℕ, zero, suc, ◌+◌, ◌*◌, ◌≤◌, ◌<◌}
use native.Mathlib.Omega.{arith}
use lib.ListN.{get_or, length}
use Rattle.tables.specs.Table.{equation_at}
use Rattle.scheme.specs.Scheme.{◌⊕◌}
use Rattle.tables.specs.Table.{equation}
use Rattle.scheme.specs.Emit.{place_after, numbers_of}
use Rattle.scheme.proofs.Offsets.{suc-⊕}
use Rattle.tables.specs.declared.Equation.{Equation}

-- ---- the place after equations

pub after-append : (xs ys : List Equation) (o : ℕ) → place_after o (xs ++ ys) ≡ place_after (place_after o xs) ys
after-append [] ys o = refl
after-append (e ∷ xs) ys o = after-append xs ys (suc o)

pub after-later : (es : List Equation) (o : ℕ) → o ≤ place_after o es
after-later [] o = omega arith
after-later (e ∷ es) o = omega (arith, after-later es (suc o))

pub after-length : (es : List Equation) (o : ℕ) → place_after o es ≡ o + length es
after-length [] o = omega arith
after-length (e ∷ es) o = omega (arith, after-length es (suc o))

-- ---- each equation with its place

-- R holds of each equation and its place, from o on.
abbrev pub Each : (ℕ → Equation → Type 0) → ℕ → List Equation → Type 0
Each R o [] = Unit {0}
Each R o (e ∷ es) = R o e × Each R (suc o) es

-- What holds of an equation, and what holds of those after it.
infixr 40 ◌▹◌
abbrev pub ◌▹◌ : {A B : Type 0} → A → B → A × B
x ▹ xs = (x, xs)

abbrev pub nothing : Equation
nothing = equation 0 0 0 0

module _ (R : ℕ → Equation → Type 0) where
  pub each_left : (xs ys : List Equation) (o : ℕ) → Each R o (xs ++ ys) → Each R o xs
  each_left [] ys o h = tt
  each_left (e ∷ xs) ys o h = (h.0, each_left xs ys (suc o) h.1)

  pub each_right : (xs ys : List Equation) (o : ℕ) → Each R o (xs ++ ys) → Each R (place_after o xs) ys
  each_right [] ys o h = h
  each_right (e ∷ xs) ys o h = each_right xs ys (suc o) h.1

  pub each-join : (xs ys : List Equation) (o : ℕ) → Each R o xs → Each R (place_after o xs) ys → Each R o (xs ++ ys)
  each-join [] ys o h g = g
  each-join (e ∷ xs) ys o h g = (h.0, each-join xs ys (suc o) h.1 g)

  pub each_at : (es : List Equation) (o i : ℕ) → Each R o es → i < length es → R (o ⊕ i) (get_or es i nothing)
  each_at [] o i h g = absurd (omega arith)
  each_at (e ∷ es) o zero h g = h.0
  each_at (e ∷ es) o (suc i) h g = rw (← suc-⊕ o i) (each_at es (suc o) i h.1 (omega arith))

  pub each_from : (es : List Equation) (o : ℕ) → ((i : ℕ) → i < length es → R (o ⊕ i) (get_or es i nothing))
      → Each R o es
  each_from [] o h = tt
  each_from (e ∷ es) o h = (h 0 (omega arith), each_from es (suc o) (λ i g. rw suc-⊕ (h (suc i) (omega arith))))

-- ---- the table of numbers

four : (i r : ℕ) → 4 * suc i + r ≡ suc (suc (suc (suc (4 * i + r))))
four i r = omega arith

pub four-more : (i : ℕ) → 4 * suc i ≡ suc (suc (suc (suc (4 * i))))
four-more i = omega arith

-- Equation i of the numbers of some equations is the i-th of them, whatever stands after them.
pub equation-at : (es : List Equation) (junk : List ℕ) (i : ℕ) → i < length es
    → equation_at (numbers_of es ++ junk) i ≡ get_or es i nothing
equation-at [] junk i h = absurd (omega arith)
equation-at (e ∷ es) junk zero h = refl
equation-at (e ∷ es) junk (suc i) h =
    rw (four i 1, four i 2, four i 3, four-more i) (equation-at es junk i (omega arith))

pub length-numbers : (es : List Equation) → length (numbers_of es) ≡ 4 * length es
length-numbers [] = refl
length-numbers (e ∷ es) = omega (arith, length-numbers es)
