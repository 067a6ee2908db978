-- The five comparisons: their numbers, and what each says of two numbers. They are the type `Op` of the code; a file
-- that renames its five names them le, lt, eq, gt, ge. Definitions only.
use Rattle.std.specs.Prelude.{Bool, List, [], ◌∷◌, ◌≡◌, ℕ, ◌≤◌, ◌<◌, leb, ltb, eqb, get_or}
use Rattle.traces.specs.declared.Op.{Op}
use Rattle.traces.specs.declared.Op.TheVariants.{AtMost as le, Below as lt, Equal as eq, Above as gt}
use Rattle.traces.specs.declared.Op.TheVariants.{AtLeast as ge}

-- SPEC 1.3: the comparisons by number, from 0 on.
abbrev pub ops : List Op
ops = le ∷ lt ∷ eq ∷ gt ∷ ge ∷ []

-- The operator of a number; numbers above 4 are refused wherever one is read.
abbrev pub op_of : ℕ → Op
op_of k = get_or ops k ge

-- The number of an operator.
abbrev pub op_number : Op → ℕ
op_number le = 0
op_number lt = 1
op_number eq = 2
op_number gt = 3
op_number ge = 4

-- SPEC 1.3, SPEC 4.8: x compared with n; both are whole numbers, of any size.
abbrev pub compares : Op → ℕ → ℕ → Bool
compares le x n = leb x n
compares lt x n = ltb x n
compares eq x n = eqb x n
compares gt x n = ltb n x
compares ge x n = leb n x

-- SPEC 1.3, SPEC 4.8: the same as a law, what holds of x and n where they compare so.
abbrev pub Compared : Op → ℕ → ℕ → Type 0
Compared le x n = x ≤ n
Compared lt x n = x < n
Compared eq x n = x ≡ n
Compared gt x n = n < x
Compared ge x n = n ≤ x
