-- The rounds of the program: they find the classes of SPEC 16.2 in fewer rounds than the definition's, and look for an
-- equation's key in chains of the classes found so far. Definitions only.
use Rattle.std.specs.Prelude.{Bool, true, cond, List, ◌++◌, ◌≡◌, ℕ, zero, suc, ◌+◌, ◌*◌, ◌%◌, ◌/◌, ◌≤◌, ◌<◌, eqb}
use Rattle.std.specs.Prelude.{length, set, replicate, drop}
use Rattle.lists.specs.Number.{number_at}
use Rattle.limits.specs.Limits.{equation_limit}
use Rattle.tables.specs.Table.{equation_at, all, equation_fits}
use Rattle.tables.specs.declared.Operand.{Operand}
use Rattle.tables.specs.declared.Operand.TheVariants.{Unused, Earlier, Anywhere, Below, Velocity}
use Rattle.packing.specs.Search.{first}
use Rattle.packing.specs.Operands.{shape_in}
use Rattle.packing.specs.Pack.{same_equation}
use Rattle.tables.specs.declared.Equation.{Equation}

-- A number of an equation, as its row has it: an operand that has to be earlier goes by `now`, a memory's by `before`.
unfoldable pub mixed_number : (ℕ → ℕ) → (ℕ → ℕ) → Operand → ℕ → ℕ
mixed_number now before Unused x = x
mixed_number now before (Earlier s) x = now x
mixed_number now before (Anywhere s) x = before x
mixed_number now before (Below m) x = x
mixed_number now before Velocity x = x

unfoldable pub mixed : (ℕ → ℕ) → (ℕ → ℕ) → Equation → Equation
mixed now before e =
    record {
      kind = e.kind;
      a = mixed_number now before (shape_in e).a e.a;
      b = mixed_number now before (shape_in e).b e.b;
      c = mixed_number now before (shape_in e).c e.c;
    }

-- The key of equation i in a quicker round: the classes of this round as far as they are known, and of the one before.
abbrev pub quick_key : List ℕ → (ℕ → ℕ) → (ℕ → ℕ) → ℕ → Equation
quick_key t now before i = mixed now before (equation_at t i)

abbrev pub same_quick_key : List ℕ → (ℕ → ℕ) → (ℕ → ℕ) → ℕ → ℕ → Bool
same_quick_key t now before i j = same_equation (quick_key t now before j) (quick_key t now before i)

-- `now` is the quicker round after `before`, as far as the first n.
pub record Quick (t : List ℕ) (n : ℕ) (before now : ℕ → ℕ) : Type 0 where
  pub entry : (i : ℕ) → i < n → now i ≡ first (same_quick_key t now before i) i

-- What a round needs of the table: n equations that keep the rules of their kinds (SPEC 5.4), with some number of
-- velocities, not too many.
pub record Fitted (t : List ℕ) (n : ℕ) : Type 0 where
  pub velocities : ℕ
  pub few : n ≤ equation_limit
  pub whole : 4 * n ≤ length t
  pub equations : all (equation_fits velocities t n) n ≡ true

-- How many buckets the numbers of a key are spread over before they are fitted to n, and the factor that spreads them.
abbrev pub spread : ℕ
spread = 4294967296

abbrev pub factor : ℕ
factor = 10368889

-- A bucket below n for a key. Which one it is does not matter.
unfoldable pub bucket_of : ℕ → Equation → ℕ
bucket_of n e = ((e.kind + 13 * e.a + 101 * e.b + 257 * e.c) * factor % spread) * n / spread

-- The buffers of a round: the classes found so far, for each equation one more than the class before it in its bucket,
-- and for each bucket one more than its last class; 0 is none.
pub record Chains : Type 0 where
  pub names : List ℕ
  pub next : List ℕ
  pub heads : List ℕ

abbrev pub chains : List ℕ → List ℕ → List ℕ → Chains
chains names next heads = record { names = names; next = next; heads = heads }

-- The head of a bucket after equation i, whose class is j.
abbrev pub head_after : ℕ → ℕ → ℕ → ℕ
head_after i j head = cond (eqb j i) (i + 1) head

-- Equation i enters with the class j, in the bucket b.
abbrev pub entered_at : Chains → ℕ → ℕ → ℕ → Chains
entered_at w i j b =
    chains (set w.names i j) (set w.next i (number_at w.heads b))
    (set w.heads b (head_after i j (number_at w.heads b)))

-- The same after the classes p of the round before: its class is the first equation with its key.
abbrev pub entered : List ℕ → (ℕ → ℕ) → ℕ → Chains → ℕ → Chains
entered t p n w i =
    entered_at w i (first (same_quick_key t (number_at w.names) p i) i)
    (bucket_of n (quick_key t (number_at w.names) p i))

-- The first n numbers are 0.
abbrev pub cleared : ℕ → List ℕ → List ℕ
cleared n l = replicate n 0 ++ drop n l

-- The first i turns of a round.
unfoldable pub round_of : List ℕ → (ℕ → ℕ) → ℕ → Chains → ℕ → Chains
round_of t p n w zero = chains w.names w.next (cleared n w.heads)
round_of t p n w (suc i) = entered t p n (round_of t p n w i) i

-- The chain in which equation i is looked for, with the classes c of this round and p of the one before, by any buckets
-- of keys: `start` is one more than the last class in its bucket, and `next x` one more than the last class before x in
-- the bucket of x.
pub record Chain (t : List ℕ) (bucket : Equation → ℕ) (p c : ℕ → ℕ) (i : ℕ) (next : ℕ → ℕ) (start : ℕ) : Type 0 where
  pub bound : start ≤ i
  pub head : (y : ℕ) → y < i → c y ≡ y → bucket (quick_key t c p y) ≡ bucket (quick_key t c p i) → y < start
  pub starts : (x : ℕ) → start ≡ suc x → bucket (quick_key t c p x) ≡ bucket (quick_key t c p i)
  pub low : (x : ℕ) → x < i → next x ≤ x
  pub link : (x y : ℕ) → x < i → y < x → c y ≡ y → bucket (quick_key t c p y) ≡ bucket (quick_key t c p x) → y < next x
  pub own : (x y : ℕ) → x < i → next x ≡ suc y → bucket (quick_key t c p y) ≡ bucket (quick_key t c p x)

-- What a walk of a chain needs: equation i of n, its key x, and the chain from `start` on.
pub record Walking (t : List ℕ) (n : ℕ) (now before next : List ℕ) (i : ℕ) (x : Equation) (start : ℕ) : Type 0 where
  pub whole : 4 * i + 4 ≤ length t
  pub named : i ≤ length now
  pub linked : i ≤ length next
  pub key : x ≡ quick_key t (number_at now) (number_at before) i
  pub quick : Quick t i (number_at before) (number_at now)
  pub chain : Chain t (bucket_of n) (number_at before) (number_at now) i (number_at next) start

-- Each of the four buffers has room for n numbers.
pub record Rooms (n : ℕ) (names before next heads : List ℕ) : Type 0 where
  pub in-names : n ≤ length names
  pub in-before : n ≤ length before
  pub in-next : n ≤ length next
  pub in-heads : n ≤ length heads

-- What finding the classes needs: a table whose n equations fit, and room.
pub record Classifiable (t : List ℕ) (n : ℕ) (names before next heads : List ℕ) : Type 0 where
  pub fitted : Fitted t n
  pub rooms : Rooms n names before next heads
