-- Alike equations and their flows: flows of two tables that solve their equations on one trace are equal wherever a
-- relation holds whose equations are alike up to it, by induction on the tick and on the place in the first table. So
-- equations that cannot be told apart have equal flows, and a packed table has the flows of the given one.
-- Assumes nothing.
use mathlib.Core.Path.{◌≡◌, refl, ◌∙◌, sym, subst}
use mathlib.Core.Bool.{true}
use mathlib.Core.List.{List}
use mathlib.Core.Logic.{⊎_elim}
use Prim.Native.Nat.{ℕ, zero, suc, ◌<◌}
use native.Mathlib.Omega.{arith}
use Rattle.traces.specs.declared.Tick.{Tick}
use Rattle.traces.specs.Trace.{Trace}
use Rattle.tables.specs.Table.{all, equation_at, equation_fits, operand_fits, shape_fits}
use Rattle.tables.specs.Table.{kind_at, shape_of, sort_of, is_memory}
use Rattle.tables.specs.declared.Operand.{Operand}
use Rattle.tables.specs.declared.Operand.TheVariants.{Unused, Earlier, Anywhere, Below, Velocity}
use Rattle.tables.proofs.Tests.{all-at}
use Rattle.flows.specs.Flow.{value_of, initial}
use Rattle.flows.specs.Lustre.{remembered, Solves}
use Rattle.flows.proofs.Ranges.{memory-kind, flow-below}
use Rattle.packing.specs.Operands.{shape_in}
use Rattle.packing.specs.Pack.{renamed_number, renamed}
use Rattle.packing.specs.Laws.{Agree, Alike, Merged}
use Rattle.packing.proofs.Keys.{equation-same, Three, both-fit}
use Rattle.std.specs.Prelude.{Option, Some, None}
use Rattle.tables.specs.declared.Kind.TheVariants.{Signal, Start, Constant, Not, And, Or, BooleanPre}
use Rattle.tables.specs.declared.Kind.TheVariants.{CountPre, Capped, If, CompareLiteral, CompareParameter, Velocity}
use Rattle.tables.specs.declared.Equation.{Equation}
use Rattle.tables.specs.declared.Kind.{Kind}

-- ---- alike equations

-- Two equations to which d is alike are alike, by a relation that those to d give.
module _ (R S T : ℕ → ℕ → Type 0) (give : (x y z : ℕ) → R x y → S x z → T y z) where
  agree-common : (o : Operand) (x y z : ℕ) → Agree R o x y → Agree S o x z → Agree T o y z
  unfolding Agree
  agree-common Unused x y z p q = sym p ∙ q
  agree-common (Earlier s) x y z p q = give x y z p q
  agree-common (Anywhere s) x y z p q = give x y z p q
  agree-common (Below m) x y z p q = sym p ∙ q
  agree-common Velocity x y z p q = sym p ∙ q

  pub alike-common : (d e f : Equation) → Alike R d e → Alike S d f → Alike T e f
  alike-common d e f p q =
      record {
        kind = sym p.kind ∙ q.kind;
        a = rw (← p.kind) (agree-common _ _ _ _ p.a q.a);
        b = rw (← p.kind) (agree-common _ _ _ _ p.b q.b);
        c = rw (← p.kind) (agree-common _ _ _ _ p.c q.c);
      }

-- An equation is alike to itself,
agree-self : (o : Operand) (x : ℕ) → Agree (λ y z. y ≡ z) o x x
unfolding Agree
agree-self Unused x = refl
agree-self (Earlier s) x = refl
agree-self (Anywhere s) x = refl
agree-self (Below m) x = refl
agree-self Velocity x = refl

pub alike_self : (e : Equation) → Alike (λ y z. y ≡ z) e e
alike_self e = record { kind = refl; a = agree-self _ _; b = agree-self _ _; c = agree-self _ _ }

-- so the two can be exchanged, and one relation gives another.
module _ (R S : ℕ → ℕ → Type 0) where
  pub alike-converse : ((x y : ℕ) → R x y → S y x) → (d e : Equation) → Alike R d e → Alike S e d
  alike-converse give d e h =
      alike-common R (λ y z. y ≡ z) S (λ x y z r q. subst (S y) q (give x y r)) d e d h (alike_self d)

  pub alike-weaken : ((x y : ℕ) → R x y → S x y) → (d e : Equation) → Alike R d e → Alike S d e
  alike-weaken give d e h =
      alike-common (λ y z. y ≡ z) R S (λ x y z q r. subst (λ w. S w z) q (give x z r)) d d e (alike_self d) h

-- An equation renamed by f is alike to the equation, by a relation that holds of f x and x where R holds of x itself.
module _ (f : ℕ → ℕ) (R S : ℕ → ℕ → Type 0) (give : (x : ℕ) → R x x → S (f x) x) where
  agree-renamed : (o : Operand) (x : ℕ) → Agree R o x x → Agree S o (renamed_number f o x) x
  unfolding Agree renamed_number
  agree-renamed Unused x h = refl
  agree-renamed (Earlier s) x h = give x h
  agree-renamed (Anywhere s) x h = give x h
  agree-renamed (Below m) x h = refl
  agree-renamed Velocity x h = refl

  pub renamed-alike : (e : Equation) → Alike R e e → Alike S (renamed f e) e
  unfolding renamed
  renamed-alike e h =
      record {
        kind = refl;
        a = agree-renamed _ _ h.a;
        b = agree-renamed _ _ h.b;
        c = agree-renamed _ _ h.c;
      }

-- An equation whose operands are f of another's is the other, renamed by f.
agree-named : (f : ℕ → ℕ) (o : Operand) (x y : ℕ) → Agree (λ x y. x ≡ f y) o x y → x ≡ renamed_number f o y
unfolding Agree renamed_number
agree-named f Unused x y h = h
agree-named f (Earlier s) x y h = h
agree-named f (Anywhere s) x y h = h
agree-named f (Below m) x y h = h
agree-named f Velocity x y h = h

pub alike-named : (f : ℕ → ℕ) (d e : Equation) → Alike (λ x y. x ≡ f y) d e → d ≡ renamed f e
unfolding renamed
alike-named f d e h =
    equation-same _ _ h.kind (rw (← h.kind) (agree-named f _ _ _ h.a))
    (rw (← h.kind) (agree-named f _ _ _ h.b)) (rw (← h.kind) (agree-named f _ _ _ h.c))

-- ---- their values

-- Two numbers at one place of a kind's row: operands that are read at the tick itself are related by S, those of
-- memories, which are read at the tick before, by T, and other numbers are equal.
unfoldable Match : (ℕ → ℕ → Type 0) → (ℕ → ℕ → Type 0) → Operand → ℕ → ℕ → Type 0
Match S T Unused x y = x ≡ y
Match S T (Earlier s) x y = S x y
Match S T (Anywhere s) x y = T x y
Match S T (Below m) x y = x ≡ y
Match S T Velocity x y = x ≡ y

-- Equation i of n and equation j of n' of another table that are alike by R match by what R gives of their operands.
module _ (velocities : ℕ) (t t' : List ℕ) (n n' i j : ℕ) (R S T : ℕ → ℕ → Type 0)
    (now : (x y : ℕ) → x < i → y < j → R x y → S x y)
    (past : (x y : ℕ) → x < n → y < n' → R x y → T x y) where
  number-match : (o : Operand) (x y : ℕ) → operand_fits velocities t n i o x ≡ true
      → operand_fits velocities t' n' j o y ≡ true → Agree R o x y → Match S T o x y
  unfolding operand_fits Agree Match
  number-match Unused x y f g h = h
  number-match (Earlier s) x y f g h = now x y (flow-below t i s x f) (flow-below t' j s y g) h
  number-match (Anywhere s) x y f g h = past x y (flow-below t n s x f) (flow-below t' n' s y g) h
  number-match (Below m) x y f g h = h
  number-match Velocity x y f g h = h

  alike-match : (d e : Equation) → shape_fits velocities t n i (shape_in d) d ≡ true
      → shape_fits velocities t' n' j (shape_in e) e ≡ true → Alike R d e → Three (Match S T) (shape_in d) d e
  alike-match d e u v h =
      let f = both-fit velocities t n i i d d refl u u in
      let g = both-fit velocities t' n' j j e e refl v v in
      record {
        a = number-match _ _ _ f.a.0 (rw (← h.kind) at g.a.0) h.a;
        b = number-match _ _ _ f.b.0 (rw (← h.kind) at g.b.0) h.b;
        c = number-match _ _ _ f.c.0 (rw (← h.kind) at g.c.0) h.c;
      }

-- Equations of one kind that match by equal flows have one value, if the cells of memories are equal.
module _ (cap : ℕ) (k : Tick) (flow flow' : ℕ → ℕ) (cell cell' : ℕ) (T : ℕ → ℕ → Type 0) (d e : Equation) where
  value-match : (q : Option Kind) → Three (Match (λ x y. flow x ≡ flow' y) T) (shape_of q) d e
      → (is_memory q ≡ true → cell ≡ cell') → value_of cap k flow cell q d ≡ value_of cap k flow' cell' q e
  unfolding Match shape_of value_of is_memory
  value-match (Some Signal) m h = rw m.a
  value-match (Some Start) m h = refl
  value-match (Some Constant) m h = m.a
  value-match (Some Not) m h = rw m.a
  value-match (Some And) m h = rw (m.a, m.b)
  value-match (Some Or) m h = rw (m.a, m.b)
  value-match (Some BooleanPre) m h = h refl
  value-match (Some CountPre) m h = h refl
  value-match (Some Capped) m h = rw (m.a, m.b)
  value-match (Some If) m h = rw (m.a, m.b)
  value-match (Some CompareLiteral) m h = rw (m.a, m.b, m.c)
  value-match (Some CompareParameter) m h = rw (m.a, m.b, m.c)
  value-match (Some Velocity) m h = rw (m.a, m.b)
  value-match None m h = refl

-- Memories of one kind that match have operands related by T, and the same initial value.
module _ (S T : ℕ → ℕ → Type 0) (d e : Equation) where
  abbrev Stored : Option Kind → Type 0
  Stored q = T d.a e.a × (initial (sort_of q) d.c ≡ initial (sort_of q) e.c)

  boolean-match : Three (Match S T) (shape_of (Some BooleanPre)) d e → Stored (Some BooleanPre)
  unfolding Match shape_of
  boolean-match h = (h.a, rw h.c)

  count-match : Three (Match S T) (shape_of (Some CountPre)) d e → Stored (Some CountPre)
  unfolding Match shape_of initial
  count-match h = (h.a, refl)

  memory-match : (q : Option Kind) → is_memory q ≡ true → Three (Match S T) (shape_of q) d e → Stored q
  memory-match q m h =
      ⊎_elim (λ p. rw p (boolean-match (rw p at h))) (λ p. rw p (count-match (rw p at h))) (memory-kind q m)

-- ---- their flows

-- Flows f of t and g of t' on one trace, and a relation R whose equations are alike up to it.
module _ (cap velocities : ℕ) (t t' : List ℕ) (n n' : ℕ) (fit : all (equation_fits velocities t n) n ≡ true)
    (fit' : all (equation_fits velocities t' n') n' ≡ true) (trace : Trace) (f g : ℕ → ℕ → ℕ)
    (F : Solves cap t n trace f) (G : Solves cap t' n' trace g) (R : ℕ → ℕ → Type 0)
    (keeps : (i j : ℕ) → i < n → j < n' → R i j → Alike R (equation_at t i) (equation_at t' j)) where
  -- Flow x of t and flow y of t' are the same at tick k,
  abbrev Same : ℕ → ℕ → ℕ → Type 0
  Same k x y = f k x ≡ g k y

  -- or at the tick before it.
  Before : ℕ → ℕ → ℕ → Type 0
  Before zero x y = Unit {0}
  Before (suc k) x y = Same k x y

  -- Memories that match by the tick before give the same at tick k.
  cells_same : (k i j : ℕ) → kind_at t i ≡ kind_at t' j → is_memory (kind_at t i) ≡ true
      → Three (Match (Same k) (Before k)) (shape_of (kind_at t i)) (equation_at t i) (equation_at t' j)
      → remembered t f i k ≡ remembered t' g j k
  unfolding Before
  cells_same zero i j q m h = (memory-match _ _ (equation_at t i) (equation_at t' j) (kind_at t i) m h).1 ∙ rw q
  cells_same (suc k) i j q m h = (memory-match _ _ (equation_at t i) (equation_at t' j) (kind_at t i) m h).0

  -- Related flows are the same at tick k if they are at the tick before, by induction on a bound b of i,
  tick-same : (k : ℕ) → ((x y : ℕ) → x < n → y < n' → R x y → Before k x y)
      → (b i j : ℕ) → i < b → i < n → j < n' → R i j → Same k i j
  tick-same k before zero i j l u v r = absurd (omega arith)
  tick-same k before (suc b) i j l u v r =
      let d = equation_at t i in
      let e = equation_at t' j in
      let h = keeps i j u v r in
      let q : kind_at t i ≡ kind_at t' j = rw h.kind in
      let m = alike-match velocities t t' n n' i j R (Same k) (Before k)
      (λ x y p s. tick-same k before b x y (omega arith) (omega arith) (omega arith)) before d e
      (all-at (equation_fits velocities t n) n fit i u) (all-at (equation_fits velocities t' n') n' fit' j v) h in
      F i k u
      ∙ value-match cap (trace k) (f k) (g k) (remembered t f i k) (remembered t' g j k) (Before k) d e (kind_at t i) m
      (λ z. cells_same k i j q z m)
      ∙ rw q (sym (G j k v))

  -- so they are at every tick.
  pub flows-alike : (k i j : ℕ) → i < n → j < n' → R i j → f k i ≡ g k j
  unfolding Before
  flows-alike zero i j u v r = tick-same zero (λ x y p q s. tt) (suc i) i j (omega arith) u v r
  flows-alike (suc k) i j u v r = tick-same (suc k) (flows-alike k) (suc i) i j (omega arith) u v r

-- SPEC 16.2: equations that cannot be told apart have equal flows.
pub merged-flows : (cap velocities : ℕ) (t : List ℕ) (n : ℕ) → all (equation_fits velocities t n) n ≡ true
    → (trace : Trace) (f : ℕ → ℕ → ℕ) → Solves cap t n trace f → (i j : ℕ) → i < n → j < n → Merged t i j → (k : ℕ)
    → f k i ≡ f k j
merged-flows cap velocities t n fit trace f F i j u v h k =
    flows-alike cap velocities t t n n fit fit trace f f F F (λ x y. h.related x y ≡ true) (λ x y p q. h.alike x y)
    k i j u v h.both
