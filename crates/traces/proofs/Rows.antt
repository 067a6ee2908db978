-- The five comparisons by number, by computation. Assumes nothing.
use mathlib.Core.Bool.{Bool, true, false}
use mathlib.Core.List.{List, [], ◌∷◌, map}
use mathlib.Core.Path.{◌≡◌, refl}
use Prim.Native.Nat.{ℕ}
use Rattle.traces.specs.Compare.{op_of, compares}
use Rattle.traces.specs.declared.Op.TheVariants.{AtMost, Below, Equal, Above, AtLeast}

-- SPEC 1.3: the comparisons by number, and two numbers of no comparison, in the code's names.
number-rows : map op_of (0 ∷ 1 ∷ 2 ∷ 3 ∷ 4 ∷ 5 ∷ 4294967295 ∷ [])
    ≡ AtMost ∷ Below ∷ Equal ∷ Above ∷ AtLeast ∷ AtLeast ∷ AtLeast ∷ []
number-rows = refl

-- What the comparison of number k says of two numbers: the first is lower, they are equal, it is higher; then so again,
-- with the highest number of 32 bits.
abbrev says : ℕ → List Bool
says k =
    compares (op_of k) 6 7 ∷ compares (op_of k) 7 7 ∷ compares (op_of k) 8 7 ∷ compares (op_of k) 0 4294967295
    ∷ compares (op_of k) 4294967295 4294967295 ∷ compares (op_of k) 4294967295 0 ∷ []

-- The answers on lower, equal and higher, the same both times.
abbrev twice : Bool → Bool → Bool → List Bool
twice a b c = a ∷ b ∷ c ∷ a ∷ b ∷ c ∷ []

-- SPEC 1.3: `<=`, `<`, `=`, `>`, `>=`, and the two numbers of no comparison.
compare-rows : map says (0 ∷ 1 ∷ 2 ∷ 3 ∷ 4 ∷ 5 ∷ 4294967295 ∷ [])
    ≡ twice true true false ∷ twice true false false ∷ twice false true false ∷ twice false false true
    ∷ twice false true true ∷ twice false true true ∷ twice false true true ∷ []
compare-rows = refl
