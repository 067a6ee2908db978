-- The packed table (SPEC 16.2 to SPEC 16.4): equations that cannot be told apart become one, and those that the last
-- two do not reach are left out. Definitions only.
use Rattle.std.specs.Prelude.{Bool, ◌&&◌, ◌||◌, cond, List, [], ◌∷◌, ◌++◌, ℕ, zero, suc, ◌+◌, ◌*◌, leb, eqb}
use Rattle.tables.specs.Table.{equation_at, closing_count}
use Rattle.tables.specs.declared.Operand.{Operand}
use Rattle.tables.specs.declared.Operand.TheVariants.{Unused, Earlier, Anywhere, Below, Velocity}
use Rattle.packing.specs.Operands.{shape_in, uses}
use Rattle.packing.specs.Search.{first, some, count}
use Rattle.tables.specs.declared.Equation.{Equation}

-- A number of an equation, as its row has it: an operand x becomes f x, any other number stays.
unfoldable pub renamed_number : (ℕ → ℕ) → Operand → ℕ → ℕ
renamed_number f Unused x = x
renamed_number f (Earlier s) x = f x
renamed_number f (Anywhere s) x = f x
renamed_number f (Below m) x = x
renamed_number f Velocity x = x

-- The equation with each operand x as f x, those of memories too.
unfoldable pub renamed : (ℕ → ℕ) → Equation → Equation
renamed f e =
    record {
      kind = e.kind;
      a = renamed_number f (shape_in e).a e.a;
      b = renamed_number f (shape_in e).b e.b;
      c = renamed_number f (shape_in e).c e.c;
    }

-- Both have the same kind and numbers.
unfoldable pub same_equation : Equation → Equation → Bool
same_equation d e = eqb d.kind e.kind && (eqb d.a e.a && (eqb d.b e.b && eqb d.c e.c))

-- SPEC 16.2: classes, where c x is the class of equation x, by its lowest member.
module _ (t : List ℕ) where
  -- The key of equation i: its kind and numbers, with the classes of its operands.
  abbrev pub key_at : (ℕ → ℕ) → ℕ → Equation
  key_at c i = renamed c (equation_at t i)

  abbrev pub same_key : (ℕ → ℕ) → ℕ → ℕ → Bool
  same_key c i j = same_equation (key_at c j) (key_at c i)

  -- A round: the new class of equation i is the first equation with its key.
  unfoldable pub pass : (ℕ → ℕ) → ℕ → ℕ
  pass c i = first (same_key c i) i

  -- The classes after k rounds, from one class for all.
  unfoldable pub rounds : ℕ → ℕ → ℕ
  rounds zero i = 0
  rounds (suc k) i = pass (rounds k) i

-- In a well-formed table of n equations no further round changes one of their classes after n·n rounds.
abbrev pub classes : List ℕ → ℕ → ℕ → ℕ
classes t n = rounds t (n * n)

-- SPEC 16.3: which equations are reached from the last two, in k steps, each to the class of an operand.
module _ (t : List ℕ) (n : ℕ) (c : ℕ → ℕ) where
  -- Equation j is marked, and i is the class of one of its operands.
  abbrev pub reaches : (ℕ → Bool) → ℕ → ℕ → Bool
  reaches m i j = m j && uses (key_at t c j) i

  unfoldable pub marks : ℕ → ℕ → Bool
  marks zero i = leb n (i + closing_count)
  marks (suc k) i = marks k i || some (reaches (marks k) i) n

-- Equation i of n is kept: after 2·n steps no further one marks one of the n equations.
abbrev pub kept : List ℕ → ℕ → ℕ → Bool
kept t n = marks t n (classes t n) (n * 2)

-- SPEC 16.4: the packed table of classes c and marks m.
module _ (t : List ℕ) (c : ℕ → ℕ) (m : ℕ → Bool) where
  -- The number in the packed table of what stands for equation x: how many are kept before its class.
  abbrev pub new_name : ℕ → ℕ
  new_name x = count m (c x)

  abbrev pub numbers : Equation → List ℕ
  numbers e = e.kind ∷ e.a ∷ e.b ∷ e.c ∷ []

  -- The numbers of the equations below i that are kept, in their order.
  unfoldable pub packed_below : ℕ → List ℕ
  packed_below zero = []
  packed_below (suc i) = packed_below i ++ cond (m i) (numbers (renamed new_name (equation_at t i))) []

abbrev pub packed : List ℕ → ℕ → List ℕ
packed t n = packed_below t (classes t n) (kept t n) n

-- How many equations it has.
abbrev pub packed_count : List ℕ → ℕ → ℕ
packed_count t n = count (kept t n) n
