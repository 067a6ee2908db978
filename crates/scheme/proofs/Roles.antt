-- When rows of the scheme fit: a test that computes, of what the names in them stand for. Rows that pass it keep the
-- rules of their kinds wherever they are put. Assumes nothing.
use Rattle.std.specs.Prelude.{Option}
use mathlib.Core.Bool.{Bool, true, false, ◌&&◌, and-eq-true_iff, false≢true}
use mathlib.Core.List.{List, [], ◌∷◌}
use mathlib.Core.Path.{◌≡◌, refl, ap, ◌∙◌}
use Prim.Native.Nat.{ℕ, zero, suc, ◌≤◌, ◌<◌}
use native.Mathlib.Omega.{arith}
use lib.Dec.{ltb, leb}
use lib.ListN.{get_or, length}
use borrow.Author.Tests.{lt-ltb, ltb-true, leb-true, eq-eqb}
use Rattle.tables.specs.Table.{all, kind_of, kind_at, shape_of, sort_of, same_sort, is_flow}
use Rattle.tables.specs.Table.{operand_fits}
use Rattle.tables.specs.Table.{shape_fits}
use Rattle.tables.specs.declared.Sort.{Sort}
use Rattle.tables.specs.declared.Sort.TheVariants.{Boolean, Count}
use Rattle.tables.specs.declared.Operand.{Operand}
use Rattle.tables.specs.declared.Operand.TheVariants.{Unused, Earlier, Anywhere, Below, Velocity}
use Rattle.tables.specs.declared.Shape.{Shape}
use Rattle.tables.proofs.Tests.{all-at}
use Rattle.scheme.specs.Scheme.{◌⊕◌, row_at, value_named, kind_for, resolved, filled}
use Rattle.scheme.specs.Scheme.{Name}
use Rattle.scheme.specs.Scheme.Name.{Nought, Negated, Start, Last, Previous, Signal, Tested, A, C}
use Rattle.scheme.specs.Scheme.Name.{First, Second, Third, Fourth, Fifth}
use Rattle.scheme.specs.Scheme.{Row}
use Rattle.scheme.specs.Scheme.{Values}
use Rattle.scheme.proofs.Offsets.{⊕-add}
use Rattle.scheme.proofs.Places.{Each, each_at, each_from, nothing}
use Rattle.tables.specs.declared.Equation.{Equation}
use Rattle.tables.specs.declared.Kind.{Kind}

-- ---- the test

-- What a name in a row stands for: 0; a flow of that sort before the rows; a number below some bound; one of the rows'
-- own flows; or nothing that an operand may be.
pub data Role : Type 0 where
  nought free : Role
  given : Sort → Role
  below own : ℕ → Role

-- The roles of the names, with those of the start flows and the operands, and where A and C are below these bounds.
abbrev pub roles_of : (negated start last previous : Role) (a c : ℕ) → Name → Role
roles_of n s p q a c Nought = nought
roles_of n s p q a c Negated = n
roles_of n s p q a c Start = s
roles_of n s p q a c Last = p
roles_of n s p q a c Previous = q
roles_of n s p q a c Signal = free
roles_of n s p q a c Tested = free
roles_of n s p q a c A = below a
roles_of n s p q a c C = below c
roles_of n s p q a c First = own 0
roles_of n s p q a c Second = own 1
roles_of n s p q a c Third = own 2
roles_of n s p q a c Fourth = own 3
roles_of n s p q a c Fifth = own 4

abbrev pub is_nought : Role → Bool
is_nought nought = true
is_nought (given s) = false
is_nought free = false
is_nought (below b) = false
is_nought (own j) = false

abbrev pub is_below : ℕ → Role → Bool
is_below k nought = ltb 0 k
is_below k (given s) = false
is_below k free = false
is_below k (below b) = leb b k
is_below k (own j) = false

-- The kind of a row, with these values.
abbrev pub kind_in : Values → Row → Option Kind
kind_in v r = kind_of (kind_for v r.kind)

-- Rows with these values and these roles.
module _ (v : Values) (roles : Name → Role) (rows : List Row) where
  -- A flow before the rows, or one of the first k of their own, of that sort.
  abbrev pub is_flow_of : ℕ → Sort → Role → Bool
  is_flow_of k s nought = false
  is_flow_of k s (given g) = same_sort g s
  is_flow_of k s free = false
  is_flow_of k s (below b) = false
  is_flow_of k s (own j) = ltb j k && same_sort (sort_of (kind_in v (row_at rows j))) s

  -- The name x can be such an operand in row i. No row has a velocity: the tests stand before all rows.
  abbrev pub operand_ok : ℕ → Operand → Name → Bool
  operand_ok i Unused x = is_nought (roles x)
  operand_ok i (Below k) x = is_below k (roles x)
  operand_ok i (Earlier s) x = is_flow_of i s (roles x)
  operand_ok i (Anywhere s) x = is_flow_of (length rows) s (roles x)
  operand_ok i Velocity x = false

  abbrev pub shape_ok : ℕ → Shape → Row → Bool
  shape_ok i s r = operand_ok i s.a r.a && (operand_ok i s.b r.b && operand_ok i s.c r.c)

  abbrev pub row_ok : ℕ → Bool
  row_ok i = shape_ok i (shape_of (kind_in v (row_at rows i))) (row_at rows i)

  abbrev pub rows_ok : Bool
  rows_ok = all row_ok (length rows)

-- ---- what passes it fits

-- The flow x stands before place i of the table t and has that sort.
pub record Before (t : List ℕ) (i : ℕ) (s : Sort) (x : ℕ) : Type 0 where
  pub earlier : x < i
  pub sorted : same_sort (sort_of (kind_at t x)) s ≡ true

-- It stands before every later place, too.
pub later : {t : List ℕ} {i j : ℕ} {s : Sort} {x : ℕ} → Before t i s x → i ≤ j → Before t j s x
later b h = record { earlier = omega (arith, b.earlier, h); sorted = b.sorted }

is-flow : {t : List ℕ} {i : ℕ} {s : Sort} {x : ℕ} → Before t i s x → is_flow t i s x ≡ true
unfolding is_flow
is-flow {t} {i} {s} {x} b = rw (lt-ltb x i b.earlier, b.sorted)

-- The equation e, at place i of the table t of N equations, keeps the rules of its kind.
pub record Fits (velocities : ℕ) (t : List ℕ) (N i : ℕ) (e : Equation) : Type 0 where
  pub fits : shape_fits velocities t N i (shape_of (kind_of e.kind)) e ≡ true

-- The table has the kind of the equation e at place i.
abbrev pub KindAt : List ℕ → ℕ → Equation → Type 0
KindAt t i e = kind_at t i ≡ kind_of e.kind

-- The equations of rows.
module _ (v : Values) where
  pub filled-length : (rs : List Row) → length (filled v rs) ≡ length rs
  filled-length [] = refl
  filled-length (r ∷ rs) = ap suc (filled-length rs)

  filled_at : (rs : List Row) (i : ℕ) → i < length rs → get_or (filled v rs) i nothing ≡ resolved v (row_at rs i)
  filled_at [] i h = absurd (omega arith)
  filled_at (r ∷ rs) zero h = refl
  filled_at (r ∷ rs) (suc i) h = filled_at rs i (omega arith)

-- Rows from place o on.
module _ (velocities : ℕ) (t : List ℕ) (N o : ℕ) where
  -- The number v is what its role says.
  abbrev pub Plays : Role → ℕ → Type 0
  Plays nought v = v ≡ 0
  Plays (given s) v = Before t o s v
  Plays free v = Unit {0}
  Plays (below b) v = v < b
  Plays (own j) v = v ≡ o ⊕ j

  nought-fits : (r : Role) (v : ℕ) → Plays r v → is_nought r ≡ true → v ≡ 0
  nought-fits nought v h e = h
  nought-fits (given s) v h e = absurd (false≢true e)
  nought-fits free v h e = absurd (false≢true e)
  nought-fits (below b) v h e = absurd (false≢true e)
  nought-fits (own j) v h e = absurd (false≢true e)

  below-fits : (k : ℕ) (r : Role) (v : ℕ) → Plays r v → is_below k r ≡ true → v < k
  below-fits k nought v h e = omega (arith, ltb-true 0 k e)
  below-fits k (given s) v h e = absurd (false≢true e)
  below-fits k free v h e = absurd (false≢true e)
  below-fits k (below b) v h e = omega (arith, leb-true b k e)
  below-fits k (own j) v h e = absurd (false≢true e)

  -- A flow can be an operand of its own sort.
  given-fits : (g s : Sort) (i v : ℕ) → Before t o g v → o ≤ i → same_sort g s ≡ true → Before t i s v
  unfolding same_sort
  given-fits Boolean Boolean i v h l e = later h l
  given-fits Boolean Count i v h l e = absurd (false≢true e)
  given-fits Count Boolean i v h l e = absurd (false≢true e)
  given-fits Count Count i v h l e = later h l

  module _ (v : Values) (roles : Name → Role) (rows : List Row) (play : (x : Name) → Plays (roles x) (value_named v x))
      (room : o ⊕ length rows ≤ N) (kinds : Each (KindAt t) o (filled v rows)) where
    -- The table has the rows' own kinds.
    own-kind : (j : ℕ) → j < length rows → kind_at t (o ⊕ j) ≡ kind_in v (row_at rows j)
    own-kind j h =
        each_at (KindAt t) (filled v rows) o j kinds (rw (filled-length v rows) h)
        ∙ ap (λ (e : Equation). kind_of e.kind) (filled_at v rows j h)

    -- A flow among the given ones and the first k of the rows' own is one before place p, if they are.
    flow-fits : (k p : ℕ) → k ≤ length rows → o ⊕ k ≤ p → (s : Sort) (r : Role) (x : ℕ) → Plays r x
        → is_flow_of v roles rows k s r ≡ true → is_flow t p s x ≡ true
    flow-fits k p small far s nought x h e = absurd (false≢true e)
    flow-fits k p small far s (given g) x h e = is-flow (given-fits g s p x h (omega (arith, ⊕-add o k)) e)
    flow-fits k p small far s free x h e = absurd (false≢true e)
    flow-fits k p small far s (below b) x h e = absurd (false≢true e)
    flow-fits k p small far s (own j) x h e =
        let both = (and-eq-true_iff (ltb j k) (same_sort (sort_of (kind_in v (row_at rows j))) s)).0 e in
        let early : j < k = ltb-true j k both.0 in
        let flow : Before t p s (o ⊕ j) = record {
          earlier = omega (arith, ⊕-add o k, ⊕-add o j);
          sorted = rw (own-kind j (omega arith)) both.1;
        } in
        rw h (is-flow flow)

    operand-fits : (i : ℕ) → i < length rows → (a : Operand) (x : Name) → operand_ok v roles rows i a x ≡ true
        → operand_fits velocities t N (o ⊕ i) a (value_named v x) ≡ true
    unfolding operand_fits
    operand-fits i h Unused x e = eq-eqb (value_named v x) 0 (nought-fits (roles x) (value_named v x) (play x) e)
    operand-fits i h (Earlier s) x e =
        flow-fits i (o ⊕ i) (omega arith) (omega arith) s (roles x) (value_named v x) (play x) e
    operand-fits i h (Anywhere s) x e =
        flow-fits (length rows) N (omega arith) room s (roles x) (value_named v x) (play x) e
    operand-fits i h (Below k) x e = lt-ltb (value_named v x) k (below-fits k (roles x) (value_named v x) (play x) e)
    operand-fits i h Velocity x e = absurd (false≢true e)

    row_fits : (i : ℕ) → i < length rows → row_ok v roles rows i ≡ true
        → Fits velocities t N (o ⊕ i) (resolved v (row_at rows i))
    unfolding shape_fits
    row_fits i h e =
        let r : Row = row_at rows i in
        let s : Shape = shape_of (kind_in v r) in
        let first = (and-eq-true_iff (operand_ok v roles rows i s.a r.a) _).0 e in
        let others = (and-eq-true_iff (operand_ok v roles rows i s.b r.b) _).0 first.1 in
        let a = operand-fits i h s.a r.a first.0 in
        let b = operand-fits i h s.b r.b others.0 in
        let c = operand-fits i h s.c r.c others.1 in
        record { fits = rw (a, b, c) }

    pub rows_fit : rows_ok v roles rows ≡ true → Each (Fits velocities t N) o (filled v rows)
    rows_fit e =
        each_from (Fits velocities t N) (filled v rows) o
        (λ i h.
        let h' : i < length rows = rw (filled-length v rows) at h in
        rw (filled_at v rows i h') (row_fits i h' (all-at (row_ok v roles rows) (length rows) e i h')))
