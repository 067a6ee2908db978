-- How the program marks the equations that the last two reach (SPEC 16.3): each once, in the order in which they are
-- found. Definitions only.
use Rattle.std.specs.Prelude.{Bool, true, cond, List, ◌≡◌, ℕ, ◌+◌, ◌*◌, ◌≤◌, ◌<◌, eqb, length, set}
use Rattle.lists.specs.Number.{number_at}
use Rattle.tables.specs.Table.{equation_at, closing_count}
use Rattle.tables.specs.declared.Operand.{Operand}
use Rattle.tables.specs.declared.Operand.TheVariants.{Unused, Earlier, Anywhere, Below, Velocity}
use Rattle.packing.specs.Operands.{shape_in}
use Rattle.packing.specs.Pack.{classes}
use Rattle.packer.specs.Round.{Fitted}
use Rattle.tables.specs.declared.Equation.{Equation}

-- The marks, 1 for a marked equation and 0 for any other, those found in their order, and how many.
pub record Marking : Type 0 where
  pub marks : List ℕ
  pub found : List ℕ
  pub size : ℕ

abbrev pub marking : List ℕ → List ℕ → ℕ → Marking
marking m f k = record { marks = m; found = f; size = k }

-- Equation x is not marked.
abbrev pub unmarked : List ℕ → ℕ → Bool
unmarked m x = eqb (number_at m x) 0

-- Equation x is marked, if it was not.
unfoldable pub pushed : Marking → ℕ → Marking
pushed w x =
    cond (unmarked w.marks x) (marking (set w.marks x 1) (set w.found w.size x) (w.size + 1)) w

-- The class of an operand x is marked, by its row; c has the classes.
unfoldable pub visited : (ℕ → ℕ) → Marking → Operand → ℕ → Marking
visited c w Unused x = w
visited c w (Earlier s) x = pushed w (c x)
visited c w (Anywhere s) x = pushed w (c x)
visited c w (Below m) x = w
visited c w Velocity x = w

-- Those of an equation's A, then B, then C are.
abbrev pub visited_a : (ℕ → ℕ) → Marking → Equation → Marking
visited_a c w e = visited c w (shape_in e).a e.a

abbrev pub visited_b : (ℕ → ℕ) → Marking → Equation → Marking
visited_b c w e = visited c (visited_a c w e) (shape_in e).b e.b

abbrev pub expanded : (ℕ → ℕ) → Marking → Equation → Marking
expanded c w e = visited c (visited_b c w e) (shape_in e).c e.c

-- What marking equation x needs: it has a mark, and a place among those found where it is not marked yet.
abbrev pub Push : Marking → ℕ → Type 0
Push w x = (x < length w.marks) × (unmarked w.marks x ≡ true → w.size < length w.found)

-- What marking the class of a number x needs, whose row asks for o: an operand has a class that can be marked.
unfoldable pub Visit : List ℕ → Marking → Operand → ℕ → Type 0
Visit l w Unused x = Unit {0}
Visit l w (Earlier s) x = (x < length l) × Push w (number_at l x)
Visit l w (Anywhere s) x = (x < length l) × Push w (number_at l x)
Visit l w (Below m) x = Unit {0}
Visit l w Velocity x = Unit {0}

-- What marking the classes of all operands of equation j needs: the same of each of the three.
pub record Expand (t : List ℕ) (j : ℕ) (l : List ℕ) (w : Marking) : Type 0 where
  pub whole : 4 * j + 4 ≤ length t
  pub a : Visit l w (shape_in (equation_at t j)).a (equation_at t j).a
  pub b : Visit l (visited_a (number_at l) w (equation_at t j)) (shape_in (equation_at t j)).b (equation_at t j).b
  pub c : Visit l (visited_b (number_at l) w (equation_at t j)) (shape_in (equation_at t j)).c (equation_at t j).c

-- The first n numbers of a list are the classes of the table's n equations.
abbrev pub Named : List ℕ → ℕ → List ℕ → Type 0
Named t n l = (i : ℕ) → i < n → number_at l i ≡ classes t n i

-- What marking needs: a table whose n equations fit, two of them to close it, their classes in a list l, and room for
-- the marks.
pub record Markable (t : List ℕ) (n : ℕ) (l m : List ℕ) : Type 0 where
  pub fitted : Fitted t n
  pub two : closing_count ≤ n
  pub names : Named t n l
  pub named : n ≤ length l
  pub room : n ≤ length m
