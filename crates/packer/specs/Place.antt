-- Buffers whose first numbers are given by a function: the marks of the equations that are kept, and the places of all
-- in the packed table (SPEC 16.3, SPEC 16.4). Definitions only.
use Rattle.std.specs.Prelude.{List, [], ◌∷◌, ◌≡◌, ℕ, zero, suc, ◌*◌, ◌≤◌, ◌<◌, length, set}
use Rattle.lists.specs.Number.{number_at}
use Rattle.limits.specs.Limits.{table_room}
use Rattle.traces.specs.Trace.{truth}
use Rattle.tables.specs.Table.{passed, checked, first_failed}
use Rattle.packing.specs.Pack.{classes, kept, new_name}
use Rattle.packing.specs.Packing.{AfterPack, room_test, packing_if}
use Rattle.packer.specs.Round.{Fitted, Rooms}
use Rattle.packer.specs.Mark.{Named}
use Rattle.tables.specs.declared.Equation.{Equation}

-- The first n numbers are f 0 to f (n - 1), and the others are kept.
unfoldable pub filled : (ℕ → ℕ) → ℕ → List ℕ → List ℕ
filled f zero l = l
filled f (suc i) l = set (filled f i l) i (f i)

-- The first n numbers of a list say which of the table's n equations are kept.
abbrev pub Marked : List ℕ → ℕ → List ℕ → Type 0
Marked t n l = (i : ℕ) → i < n → number_at l i ≡ truth (kept t n i)

-- How many equations are kept before the class of equation i: where the class is kept, its number in the packed table.
abbrev pub place_at : List ℕ → ℕ → ℕ → ℕ
place_at t n i = new_name t (classes t n) (kept t n) i

abbrev pub Placed : List ℕ → ℕ → List ℕ → Type 0
Placed t n l = (i : ℕ) → i < n → number_at l i ≡ place_at t n i

-- What finding the places needs: a table whose n equations fit, their classes in a list l, and their marks in m.
pub record Placeable (t : List ℕ) (n : ℕ) (m l : List ℕ) : Type 0 where
  pub fitted : Fitted t n
  pub names : Named t n l
  pub marks : Marked t n m
  pub marked : n ≤ length m
  pub named : n ≤ length l

-- What storing the packed table needs: the same with places in l, and room in the second table.
pub record Storable (t : List ℕ) (n : ℕ) (m l second : List ℕ) : Type 0 where
  pub fitted : Fitted t n
  pub places : Placed t n l
  pub marks : Marked t n m
  pub marked : n ≤ length m
  pub room : 4 * n ≤ length second

-- The table passes its check, with some number of velocities. What packing makes of it does not depend on that number.
pub record Passing (t : List ℕ) (n : ℕ) : Type 0 where
  pub velocities : ℕ
  pub passed : checked velocities t n ≡ passed

-- What packing does with such a table: the room of the second one decides.
abbrev pub packed_into : List ℕ → ℕ → List ℕ → AfterPack
packed_into t n second = packing_if (first_failed (room_test second ∷ [])) t n second

-- What packing in lent buffers needs: a table that passes its check, and room in the second table and in each buffer.
pub record Packable (t : List ℕ) (n : ℕ) (second names before next heads : List ℕ) : Type 0 where
  pub passing : Passing t n
  pub room : table_room ≤ length second
  pub rooms : Rooms n names before next heads

-- The four numbers of an equation.
abbrev pub numbers_of : Equation → List ℕ
numbers_of x = x.kind ∷ x.a ∷ x.b ∷ x.c ∷ []
