-- The operands of an equation, by the row of its kind. Definitions only.
use Rattle.std.specs.Prelude.{Bool, false, ◌||◌, ℕ, eqb}
use Rattle.tables.specs.Table.{kind_of, shape_of}
use Rattle.tables.specs.declared.Operand.{Operand}
use Rattle.tables.specs.declared.Operand.TheVariants.{Unused, Earlier, Anywhere, Below, Velocity}
use Rattle.tables.specs.declared.Shape.{Shape}
use Rattle.tables.specs.declared.Equation.{Equation}

-- The row of an equation's kind (SPEC 5.3).
abbrev pub shape_in : Equation → Shape
shape_in e = shape_of (kind_of e.kind)

-- The number y of an equation is an operand, and it is x.
unfoldable pub refers : Operand → ℕ → ℕ → Bool
refers Unused y x = false
refers (Earlier s) y x = eqb y x
refers (Anywhere s) y x = eqb y x
refers (Below m) y x = false
refers Velocity y x = false

-- x is an operand of the equation.
unfoldable pub uses : Equation → ℕ → Bool
uses e x = refers (shape_in e).a e.a x || (refers (shape_in e).b e.b x || refers (shape_in e).c e.c x)
