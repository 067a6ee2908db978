-- Equation tables: the numbers of an equation, the thirteen kinds, and which tables are well formed. Definitions only.
use Rattle.std.specs.Prelude.{Bool, true, false, ◌&&◌, cond, List, [], ◌∷◌, ℕ, zero, suc, ◌+◌, ◌*◌, ◌-◌, leb, ltb, eqb}
use Rattle.std.specs.Prelude.{length, get_or}
unfoldable pub use Rattle.lists.specs.All.{all}
use Rattle.lists.specs.Number.{number_at}
use Rattle.limits.specs.Limits.{signal_count, truth_count, comparison_count, literal_count, parameter_count}
use Rattle.limits.specs.Limits.{equation_limit}
use Rattle.tables.specs.declared.Kind.{Kind}
use Rattle.tables.specs.declared.Kind.TheVariants.{Signal, Start, Constant, Not, And, Or, BooleanPre, CountPre, Capped, If}
use Rattle.tables.specs.declared.Kind.TheVariants.{CompareLiteral, CompareParameter, Velocity}
use Rattle.tables.specs.declared.UnknownKind.{UnknownKind}
use Rattle.tables.specs.declared.Equation.{Equation}
use Rattle.tables.specs.declared.Sort.{Sort}
use Rattle.tables.specs.declared.Sort.TheVariants.{Boolean, Count}
use Rattle.tables.specs.declared.Operand.{Operand}
use Rattle.tables.specs.declared.Operand.TheVariants.{Unused, Earlier, Anywhere, Below, Velocity as AnyVelocity}
use Rattle.tables.specs.declared.Shape.{Shape}
use Rattle.std.specs.Prelude.{Option, Some, None, Result, Ok, Err, ◌≡◌, map}
use Rattle.limits.specs.declared.Refusal.{Refusal}
use Rattle.limits.specs.declared.Refusal.TheVariants.{BadEquation, EquationCount}

-- SPEC 5.1: an equation of these numbers.
abbrev pub equation : ℕ → ℕ → ℕ → ℕ → Equation
equation k a b c = record { kind = k; a = a; b = b; c = c }

-- Equation i of a table.
abbrev pub equation_at : List ℕ → ℕ → Equation
equation_at t i =
    record {
      kind = number_at t (4 * i);
      a = number_at t (4 * i + 1);
      b = number_at t (4 * i + 2);
      c = number_at t (4 * i + 3);
    }

-- SPEC 5.3: the kinds in the order of their numbers.
abbrev pub kinds : List Kind
kinds =
    Signal ∷ Start ∷ Constant ∷ Not ∷ And ∷ Or ∷ BooleanPre ∷ CountPre ∷ Capped ∷ If
    ∷ CompareLiteral ∷ CompareParameter ∷ Velocity ∷ []

-- The kind of that number; none, where it is the number of none.
unfoldable pub kind_of : ℕ → Option Kind
kind_of k = get_or (map Some kinds) k None

-- The answer r names the kind of the number k, or says that it has none.
abbrev pub Named : ℕ → Result Kind UnknownKind → Type 0
Named k (Ok x) = kind_of k ≡ Some x
Named k (Err e) = kind_of k ≡ None

-- The kind of equation i of a table.
abbrev pub kind_at : List ℕ → ℕ → Option Kind
kind_at t i = kind_of (number_at t (4 * i))

-- A row of the table of kinds: what A, B and C have to be, and the sort of the flow.
abbrev pub row : Operand → Operand → Operand → Sort → Shape
row x y z s = record { a = x; b = y; c = z; gives = s }

-- SPEC 5.3: the table of kinds. SPEC 5.4: operands stand before, those of the memories anywhere. No number fits A of an
-- unknown kind.
unfoldable pub shape_of : Option Kind → Shape
shape_of (Some Signal) = row (Below signal_count) Unused Unused Boolean
shape_of (Some Start) = row Unused Unused Unused Boolean
shape_of (Some Constant) = row (Below truth_count) Unused Unused Boolean
shape_of (Some Not) = row (Earlier Boolean) Unused Unused Boolean
shape_of (Some And) = row (Earlier Boolean) (Earlier Boolean) Unused Boolean
shape_of (Some Or) = row (Earlier Boolean) (Earlier Boolean) Unused Boolean
shape_of (Some BooleanPre) = row (Anywhere Boolean) Unused (Below truth_count) Boolean
shape_of (Some CountPre) = row (Anywhere Count) Unused Unused Count
shape_of (Some Capped) = row (Earlier Count) (Earlier Boolean) Unused Count
shape_of (Some If) = row (Earlier Boolean) (Earlier Count) Unused Count
shape_of (Some CompareLiteral) = row (Earlier Count) (Below comparison_count) (Below literal_count) Boolean
shape_of (Some CompareParameter) = row (Earlier Count) (Below comparison_count) (Below parameter_count) Boolean
shape_of (Some Velocity) = row (Below comparison_count) AnyVelocity Unused Boolean
shape_of None = row (Below 0) Unused Unused Boolean

-- The sort of a kind's flow.
abbrev pub sort_of : Option Kind → Sort
sort_of q = (shape_of q).gives

-- Both sorts are the same.
unfoldable pub same_sort : Sort → Sort → Bool
same_sort Boolean Boolean = true
same_sort Boolean Count = false
same_sort Count Boolean = false
same_sort Count Count = true

-- SPEC 5.7: the kinds that are memories.
unfoldable pub is_memory : Option Kind → Bool
is_memory (Some Signal) = false
is_memory (Some Start) = false
is_memory (Some Constant) = false
is_memory (Some Not) = false
is_memory (Some And) = false
is_memory (Some Or) = false
is_memory (Some BooleanPre) = true
is_memory (Some CountPre) = true
is_memory (Some Capped) = false
is_memory (Some If) = false
is_memory (Some CompareLiteral) = false
is_memory (Some CompareParameter) = false
is_memory (Some Velocity) = false
is_memory None = false

-- SPEC 5.7: how many of the first equations of a table are memories.
abbrev pub memories : List ℕ → ℕ → ℕ
memories t zero = 0
memories t (suc i) = cond (is_memory (kind_at t i)) (suc (memories t i)) (memories t i)

-- x is one of the first m equations, and its flow has that sort.
unfoldable pub is_flow : List ℕ → ℕ → Sort → ℕ → Bool
is_flow t m s x = ltb x m && same_sort (sort_of (kind_at t x)) s

-- SPEC 5.4: the number x can be such an operand in equation i of n, where there are so many velocities; SPEC 5.1: it is
-- 0 where none is used.
unfoldable pub operand_fits : ℕ → List ℕ → ℕ → ℕ → Operand → ℕ → Bool
operand_fits velocities t n i Unused x = eqb x 0
operand_fits velocities t n i (Earlier s) x = is_flow t i s x
operand_fits velocities t n i (Anywhere s) x = is_flow t n s x
operand_fits velocities t n i (Below m) x = ltb x m
operand_fits velocities t n i AnyVelocity x = ltb x velocities

-- The three numbers of the equation e, i of n, are what its kind's row asks for.
unfoldable pub shape_fits : ℕ → List ℕ → ℕ → ℕ → Shape → Equation → Bool
shape_fits velocities t n i s e =
    operand_fits velocities t n i s.a e.a
    && (operand_fits velocities t n i s.b e.b && operand_fits velocities t n i s.c e.c)

-- Equation i of n keeps the rules of its kind.
abbrev pub equation_fits : ℕ → List ℕ → ℕ → ℕ → Bool
equation_fits velocities t n i = shape_fits velocities t n i (shape_of (kind_at t i)) (equation_at t i)

-- The test of refusal 10 (SPEC 7.10): n is neither 0 nor above the limit (SPEC 5.6), and the table has n equations'
-- numbers.
unfoldable pub length_fits : List ℕ → ℕ → Bool
length_fits t n = ltb 0 n && (leb n equation_limit && leb (4 * n) (length t))

-- SPEC 5.5: how many equations close a table, the started flow's and then the verdict's; which of n these are.
abbrev pub closing_count : ℕ
closing_count = 2

abbrev pub started_of : ℕ → ℕ
started_of n = n - closing_count

abbrev pub verdict_of : ℕ → ℕ
verdict_of n = n - 1

-- The flow of equation i is boolean.
abbrev pub boolean_at : List ℕ → ℕ → Bool
boolean_at t i = same_sort (sort_of (kind_at t i)) Boolean

-- SPEC 5.5: there are two equations that close the table, and both of their flows are boolean.
unfoldable pub closes : List ℕ → ℕ → Bool
closes t n = leb closing_count n && (boolean_at t (started_of n) && boolean_at t (verdict_of n))

-- The test of refusal 11 (SPEC 7.11): each equation keeps the rules of its kind, and the last two those of SPEC 5.5.
unfoldable pub equations_fit : ℕ → List ℕ → ℕ → Bool
equations_fit velocities t n = all (equation_fits velocities t n) n && closes t n

-- A test and the refusal of a call that fails it.
pub record Test : Type 0 where
  pub refusal : Refusal
  pub passed : Bool

abbrev pub test : Refusal → Bool → Test
test r b = record { refusal = r; passed = b }

-- What the check of a call answers: no refusal applies, or the first that does.
abbrev pub Checked : Type 0
Checked = Result (Unit {0}) Refusal

abbrev pub passed : Checked
passed = Ok tt

-- SPEC 1.4: the first test that fails gives the refusal.
abbrev pub first_failed : List Test → Checked
first_failed [] = passed
first_failed (x ∷ xs) = cond x.passed (first_failed xs) (Err x.refusal)

-- The tests of a table of n equations, where there are so many velocities.
abbrev pub table_tests : ℕ → List ℕ → ℕ → List Test
table_tests velocities t n = test EquationCount (length_fits t n) ∷ test BadEquation (equations_fit velocities t n) ∷ []

-- What the check of a table answers.
unfoldable pub checked : ℕ → List ℕ → ℕ → Checked
checked velocities t n = first_failed (table_tests velocities t n)
