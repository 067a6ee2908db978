-- What packing owes (SPEC 16.1 to SPEC 16.5), with no rounds, marks or places in it: which equations cannot be told
-- apart, which are reached, and how a packed table stands to the given one. Definitions only; the theorem is `packs` in
-- proofs/Packs.antt.
use Rattle.std.specs.Prelude.{Bool, true, List, [], ◌∷◌, ◌++◌, ◌≡◌, ℕ, ◌+◌, ◌*◌, ◌≤◌, ◌<◌, length, take, drop, Ok, Err}
use Rattle.limits.specs.Limits.{table_room}
use Rattle.limits.specs.declared.Refusal.{Refusal}
use Rattle.limits.specs.declared.Refusal.TheVariants.{ShortTable}
use Rattle.tables.specs.Table.{equation_at, kind_at, memories, closing_count, started_of, verdict_of}
use Rattle.tables.specs.Table.{passed, checked}
use Rattle.tables.specs.declared.Operand.{Operand}
use Rattle.tables.specs.declared.Operand.TheVariants.{Unused, Earlier, Anywhere, Below, Velocity}
use Rattle.traces.specs.Trace.{Trace}
use Rattle.flows.specs.Flow.{answer_of}
use Rattle.flows.specs.Lustre.{Solves}
use Rattle.flows.specs.Run.{Call, answered, from_fresh}
use Rattle.flows.specs.Step.{Stepped}
use Rattle.packing.specs.Operands.{shape_in, uses}
use Rattle.std.specs.Prelude.{Some, Result}
use Rattle.tables.specs.declared.Kind.TheVariants.{CompareLiteral}
use Rattle.tables.specs.declared.Equation.{Equation}

-- Two numbers at one place of a kind's row: operands are related by R, other numbers are equal.
unfoldable pub Agree : (ℕ → ℕ → Type 0) → Operand → ℕ → ℕ → Type 0
Agree R Unused x y = x ≡ y
Agree R (Earlier s) x y = R x y
Agree R (Anywhere s) x y = R x y
Agree R (Below m) x y = x ≡ y
Agree R Velocity x y = x ≡ y

-- Two equations of one kind whose numbers agree.
pub record Alike (R : ℕ → ℕ → Type 0) (d e : Equation) : Type 0 where
  pub kind : d.kind ≡ e.kind
  pub a : Agree R (shape_in d).a d.a e.a
  pub b : Agree R (shape_in d).b d.b e.b
  pub c : Agree R (shape_in d).c d.c e.c

-- SPEC 16.2: equations i and j cannot be told apart: some relation holds of them, and wherever it holds, both equations
-- have one kind and the same other numbers, and it holds of their operands. `Merged t` is the greatest of this sort.
pub record Merged (t : List ℕ) (i j : ℕ) : Type 0 where
  pub related : ℕ → ℕ → Bool
  pub alike : (x y : ℕ) → related x y ≡ true
      → Alike (λ a b. related a b ≡ true) (equation_at t x) (equation_at t y)
  pub both : related i j ≡ true

-- SPEC 16.2: r is the first of the n equations that cannot be told from equation i.
pub record Represents (t : List ℕ) (n r i : ℕ) : Type 0 where
  pub merged : Merged t r i
  pub first : (j : ℕ) → j < n → Merged t j i → r ≤ j

-- SPEC 16.3: the verdict or the started flow reaches equation i of n: it is one of the two, or an operand, a memory's
-- too, of one that they reach.
pub data Reached (t : List ℕ) (n : ℕ) : ℕ → Type 0 where
  last : (i : ℕ) → i < n → n ≤ i + closing_count → Reached t n i
  through : (i j : ℕ) → i < n → Reached t n j → uses (equation_at t j) i ≡ true → Reached t n i

-- No step is refused.
abbrev pub NoneRefused : List Stepped → Type 0
NoneRefused [] = Unit {0}
NoneRefused (Ok v ∷ xs) = NoneRefused xs
NoneRefused (Err r ∷ xs) = ⊥

-- Both lists of calls have the same ticks, one by one, and the second has values for m equations in each call.
abbrev pub SameTicks : ℕ → List Call → List Call → Type 0
SameTicks m [] [] = Unit {0}
SameTicks m [] (y ∷ ys) = ⊥
SameTicks m (x ∷ xs) [] = ⊥
SameTicks m (x ∷ xs) (y ∷ ys) = (x.tick ≡ y.tick) × (m ≤ length y.values) × SameTicks m xs ys

-- Each literal of the n equations is below m.
abbrev pub LiteralsBelow : List ℕ → ℕ → ℕ → Type 0
LiteralsBelow t n m = (i : ℕ) → i < n → kind_at t i ≡ (Some CompareLiteral) → (equation_at t i).c < m

-- SPEC 16.1 to SPEC 16.5: the n' equations of t' are the n of t, packed.
pub record Packs (t : List ℕ) (n : ℕ) (t' : List ℕ) (n' : ℕ) : Type 0 where
  -- It passes the check where the given table does, however many velocities there are, and also one with another limit
  -- of literals.
  pub passes : (velocities : ℕ) → checked velocities t n ≡ passed → checked velocities t' n' ≡ passed
  pub limits : (m : ℕ) → LiteralsBelow t n m → LiteralsBelow t' n' m
  -- Equation x stands for equation `from x` of the given table. It has its kind and constants, and each operand is what
  -- stands for the first equation that cannot be told from the given operand.
  pub from : ℕ → ℕ
  pub below : (x : ℕ) → x < n' → from x < n
  pub stands : (x : ℕ) → x < n'
      → Alike (λ y i. Represents t n (from y) i) (equation_at t' x) (equation_at t (from x))
  -- Its last two stand for the given table's last two.
  pub started : from (started_of n') ≡ started_of n
  pub verdict : from (verdict_of n') ≡ verdict_of n
  -- Each other stands for the first that cannot be told from it, so no two others have the same kind and numbers,
  pub lowest : (x : ℕ) → x + closing_count < n' → Represents t n (from x) (from x)
  pub distinct : (x y : ℕ) → x + closing_count < n' → y + closing_count < n'
      → equation_at t' x ≡ equation_at t' y → x ≡ y
  -- and the verdict or the started flow reaches each.
  pub reached : (x : ℕ) → x < n' → Reached t' n' x
  -- Kept equations stay in their order.
  pub rising : (x y : ℕ) → x < y → y < n' → from x < from y
  pub shorter : n' ≤ n
  -- On every run from a fresh state in which the given table refuses no step, both answer alike, for every cap and
  -- every number of velocities, and whatever parameters and velocities the ticks have: over the same calls, and where
  -- the packed table has values of its own.
  pub answers : (cap velocities : ℕ) (old old' : List ℕ) → n ≤ length old → n' ≤ length old' → (calls : List Call)
      → NoneRefused (answered (from_fresh cap velocities t n old calls))
      → answered (from_fresh cap velocities t' n' old' calls) ≡ answered (from_fresh cap velocities t n old calls)
  pub own-values : (cap velocities : ℕ) (old old' : List ℕ) → n ≤ length old → n' ≤ length old'
      → (calls calls' : List Call) → SameTicks n' calls calls'
      → NoneRefused (answered (from_fresh cap velocities t n old calls))
      → answered (from_fresh cap velocities t' n' old' calls') ≡ answered (from_fresh cap velocities t n old calls)
  -- More than that: what solves the equations of both on one trace says the same at every tick.
  pub flows : (cap : ℕ) (trace : Trace) (f g : ℕ → ℕ → ℕ) → Solves cap t n trace f → Solves cap t' n' trace g
      → (k : ℕ) → answer_of n (f k) ≡ answer_of n' (g k)
  -- Its memories are never more.
  pub memories : memories t' n' ≤ memories t n

-- What packing answers: how many equations the packed table has, or a refusal.
abbrev pub Packed : Type 0
Packed = Result ℕ Refusal

-- SPEC 8.8: packing a table of n equations into a second one, where there are so many velocities, the answer, and the
-- second table before and after. It says nothing of how it is done.
pub data PackAnswer (velocities : ℕ) (t : List ℕ) (n : ℕ) (before : List ℕ) : Packed → List ℕ → Type 0 where
  -- refused as the check of the table says, the second table unchanged
  not-checked : {k : Refusal} → checked velocities t n ≡ Err k → PackAnswer velocities t n before (Err k) before
  -- SPEC 7.9: too short a second table, unchanged
  no_room : checked velocities t n ≡ passed → length before < table_room
      → PackAnswer velocities t n before (Err ShortTable) before
  -- Else the front of the second table is the packed table, whatever numbers or none stand after it where it is used.
  -- All other numbers of the second table are kept.
  packed : {n' : ℕ} {after : List ℕ} → checked velocities t n ≡ passed → table_room ≤ length before
      → length after ≡ length before → drop (4 * n') after ≡ drop (4 * n') before
      → ((rest : List ℕ) → Packs t n (take (4 * n') after ++ rest) n')
      → PackAnswer velocities t n before (Ok n') after
