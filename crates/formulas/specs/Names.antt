-- The parameters that a tree names (SPEC 3.11). Definitions only.
use Rattle.std.specs.Prelude.{Bool, false, ◌||◌, ℕ, eqb}
use Rattle.formulas.specs.Formula.{Num}
use Rattle.formulas.specs.Formula.Num.{literal, parameter}
use Rattle.formulas.specs.Tree.{Tree}
use Rattle.formulas.specs.Tree.Tree.{constant, signal, velocity, neg, and, or, then, chop, exists, test, len}
use Rattle.formulas.specs.Tree.Tree.{count, lag}

-- n is parameter j.
abbrev pub num_names : Num → ℕ → Bool
num_names (literal n) j = false
num_names (parameter i) j = eqb i j

-- SPEC 3.11: n is parameter j somewhere in the tree: in a `len`, a `sum`, an `age` or a `lag`, which alone have an n.
abbrev pub names_parameter : Tree → ℕ → Bool
names_parameter (constant c) j = false
names_parameter (signal i) j = false
names_parameter (velocity o n) j = false
names_parameter (neg t) j = names_parameter t j
names_parameter (and a b) j = names_parameter a j || names_parameter b j
names_parameter (or a b) j = names_parameter a j || names_parameter b j
names_parameter (then a b) j = names_parameter a j || names_parameter b j
names_parameter (chop a b) j = names_parameter a j || names_parameter b j
names_parameter (exists i t) j = names_parameter t j
names_parameter (test k p) j = names_parameter p j
names_parameter (len o n) j = num_names n j
names_parameter (count k p o n) j = names_parameter p j || num_names n j
names_parameter (lag p n q) j = names_parameter p j || (num_names n j || names_parameter q j)
