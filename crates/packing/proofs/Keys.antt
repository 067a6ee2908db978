-- Equations by their numbers: when two are equal, when they have the same key, and which equations one uses.
-- Assumes nothing.
use mathlib.Core.Path.{◌≡◌, refl, ap}
use mathlib.Core.Bool.{true}
use mathlib.Core.List.{List}
use mathlib.Core.Logic.{⊎_elim}
use Prim.Native.Nat.{ℕ, ◌≤◌, ◌<◌}
use native.Mathlib.Omega.{arith}
use lib.Dec.{eqb}
use borrow.Author.Tests.{eqb-true, eq-eqb}
use Rattle.lists.proofs.Choice.{false-true}
use Rattle.tables.specs.Table.{operand_fits, shape_fits}
use Rattle.tables.specs.declared.Operand.{Operand}
use Rattle.tables.specs.declared.Operand.TheVariants.{Unused, Earlier, Anywhere, Below, Velocity}
use Rattle.tables.specs.declared.Shape.{Shape}
use Rattle.tables.proofs.Tests.{and-true}
use Rattle.flows.proofs.Ranges.{flow-below}
use Rattle.packing.specs.Operands.{shape_in, refers, uses}
use Rattle.packing.specs.Pack.{renamed_number, renamed, same_equation}
use Rattle.packing.specs.Laws.{Agree, Alike}
use Rattle.packing.proofs.Searches.{or_left, or_right, or_cases}
use Rattle.tables.specs.declared.Equation.{Equation}

-- Equations are equal where their four numbers are.
pub equation-same : (d e : Equation) → d.kind ≡ e.kind → d.a ≡ e.a → d.b ≡ e.b → d.c ≡ e.c → d ≡ e
equation-same d e k a b c = λ i. record { kind = k i; a = a i; b = b i; c = c i }

-- The test of equality passes for equal equations only,
pub same_true : (d e : Equation) → same_equation d e ≡ true → d ≡ e
unfolding same_equation
same_true d e h =
    let p = and-true (eqb d.kind e.kind) _ h in
    let q = and-true (eqb d.a e.a) _ p.1 in
    let r = and-true (eqb d.b e.b) _ q.1 in
    equation-same d e (eqb-true _ _ p.0) (eqb-true _ _ q.0) (eqb-true _ _ r.0) (eqb-true _ _ r.1)

-- and for all of them.
pub true_same : (d e : Equation) → d ≡ e → same_equation d e ≡ true
unfolding same_equation
true_same d e h =
    rw (
      eq-eqb _ _ (ap (λ x. x.kind) h),
      eq-eqb _ _ (ap (λ x. x.a) h),
      eq-eqb _ _ (ap (λ x. x.b) h),
      eq-eqb _ _ (ap (λ x. x.c) h),
    )

-- A law of each of the three numbers of two equations, at the places of one row.
pub record Three (P : Operand → ℕ → ℕ → Type 0) (s : Shape) (d e : Equation) : Type 0 where
  pub a : P s.a d.a e.a
  pub b : P s.b d.b e.b
  pub c : P s.c d.c e.c

-- Both numbers fit their place, x in equation i and y in equation j of n.
abbrev pub Fit : ℕ → List ℕ → ℕ → ℕ → ℕ → Operand → ℕ → ℕ → Type 0
Fit velocities t n i j o x y = (operand_fits velocities t n i o x ≡ true) × (operand_fits velocities t n j o y ≡ true)

-- Two equations of one kind that fit have numbers that fit.
pub both-fit : (velocities : ℕ) (t : List ℕ) (n i j : ℕ) (d e : Equation) → d.kind ≡ e.kind
    → shape_fits velocities t n i (shape_in d) d ≡ true → shape_fits velocities t n j (shape_in e) e ≡ true
    → Three (Fit velocities t n i j) (shape_in d) d e
unfolding shape_fits
both-fit velocities t n i j d e k x y =
    let p = and-true (operand_fits velocities t n i (shape_in d).a d.a) _ x in
    let q = and-true (operand_fits velocities t n i (shape_in d).b d.b) _ p.1 in
    let z = rw (← k) at y in
    let u = and-true (operand_fits velocities t n j (shape_in d).a e.a) _ z in
    let v = and-true (operand_fits velocities t n j (shape_in d).b e.b) _ u.1 in
    record { a = (p.0, u.0); b = (q.0, v.0); c = (q.1, v.1) }

-- Two numbers at one place are the same after renaming by f just if they agree by the relation that f renames operands
-- to the same number,
module _ (f : ℕ → ℕ) where
  abbrev pub SameName : ℕ → ℕ → Type 0
  SameName x y = f x ≡ f y

  name_agree : (o : Operand) (x y : ℕ) → (renamed_number f o x ≡ renamed_number f o y) ≡ Agree SameName o x y
  unfolding renamed_number Agree
  name_agree Unused x y = refl
  name_agree (Earlier s) x y = refl
  name_agree (Anywhere s) x y = refl
  name_agree (Below m) x y = refl
  name_agree Velocity x y = refl

  -- so two equations have the same key by f just if they are alike by that relation.
  pub key-alike : (d e : Equation) → renamed f d ≡ renamed f e → Alike SameName d e
  unfolding renamed
  key-alike d e h =
      let k : d.kind ≡ e.kind = ap (λ x. x.kind) h in
      record {
        kind = k;
        a = rw (← k, name_agree) at (ap (λ x. x.a) h);
        b = rw (← k, name_agree) at (ap (λ x. x.b) h);
        c = rw (← k, name_agree) at (ap (λ x. x.c) h);
      }

  pub alike-key : (d e : Equation) → Alike SameName d e → renamed f d ≡ renamed f e
  unfolding renamed
  alike-key d e h =
      equation-same _ _ h.kind (rw (← h.kind, name_agree) h.a) (rw (← h.kind, name_agree) h.b)
      (rw (← h.kind, name_agree) h.c)

-- Equations i and j of n that fit and are alike by R are alike by S where R gives S of operands below n.
module _ (velocities : ℕ) (t : List ℕ) (n i j : ℕ) (i≤n : i ≤ n) (j≤n : j ≤ n) (R S : ℕ → ℕ → Type 0)
    (give : (x y : ℕ) → x < n → y < n → R x y → S x y) where
  agree-below : (o : Operand) (x y : ℕ) → Fit velocities t n i j o x y → Agree R o x y → Agree S o x y
  unfolding operand_fits Agree
  agree-below Unused x y h e = e
  agree-below (Earlier s) x y h e =
      let u = flow-below t i s x h.0 in let v = flow-below t j s y h.1 in give x y (omega arith) (omega arith) e
  agree-below (Anywhere s) x y h e = give x y (flow-below t n s x h.0) (flow-below t n s y h.1) e
  agree-below (Below m) x y h e = e
  agree-below Velocity x y h e = e

  pub alike-below : (d e : Equation) → shape_fits velocities t n i (shape_in d) d ≡ true
      → shape_fits velocities t n j (shape_in e) e ≡ true → Alike R d e → Alike S d e
  alike-below d e u v h =
      let f = both-fit velocities t n i j d e h.kind u v in
      record {
        kind = h.kind;
        a = agree-below _ _ _ f.a h.a;
        b = agree-below _ _ _ f.b h.b;
        c = agree-below _ _ _ f.c h.c;
      }

-- An operand of an equation is its A, its B or its C.
module _ (e : Equation) (x : ℕ) where
  pub uses-a : refers (shape_in e).a e.a x ≡ true → uses e x ≡ true
  unfolding uses
  uses-a h = or_left (refers (shape_in e).a e.a x) _ h

  pub uses-b : refers (shape_in e).b e.b x ≡ true → uses e x ≡ true
  unfolding uses
  uses-b h = or_right (refers (shape_in e).a e.a x) _ (or_left (refers (shape_in e).b e.b x) _ h)

  pub uses-c : refers (shape_in e).c e.c x ≡ true → uses e x ≡ true
  unfolding uses
  uses-c h = or_right (refers (shape_in e).a e.a x) _ (or_right (refers (shape_in e).b e.b x) _ h)

  pub uses-cases : {P : Type 0} → (refers (shape_in e).a e.a x ≡ true → P)
      → (refers (shape_in e).b e.b x ≡ true → P) → (refers (shape_in e).c e.c x ≡ true → P)
      → uses e x ≡ true → P
  unfolding uses
  uses-cases f g h q =
      ⊎_elim f (λ r. ⊎_elim g h (or_cases (refers (shape_in e).b e.b x) _ r))
      (or_cases (refers (shape_in e).a e.a x) _ q)

-- An operand after renaming by c is the new name of an operand below n.
module _ (velocities : ℕ) (t : List ℕ) (n i : ℕ) (i≤n : i ≤ n) (c : ℕ → ℕ) (x : ℕ) where
  abbrev NameBelow : Type 0
  NameBelow = (y : ℕ) × (y < n) × (c y ≡ x)

  refers-name : (o : Operand) (y : ℕ) → operand_fits velocities t n i o y ≡ true
      → refers o (renamed_number c o y) x ≡ true → NameBelow
  unfolding refers renamed_number operand_fits
  refers-name Unused y f e = absurd (false-true e)
  refers-name (Earlier s) y f e = let u = flow-below t i s y f in (y, omega arith, eqb-true (c y) x e)
  refers-name (Anywhere s) y f e = (y, flow-below t n s y f, eqb-true (c y) x e)
  refers-name (Below m) y f e = absurd (false-true e)
  refers-name Velocity y f e = absurd (false-true e)

  pub uses-name : (d : Equation) → shape_fits velocities t n i (shape_in d) d ≡ true → uses (renamed c d) x ≡ true
      → NameBelow
  unfolding renamed
  uses-name d fit h =
      let f = both-fit velocities t n i i d d refl fit fit in
      uses-cases (renamed c d) x (refers-name _ d.a f.a.0) (refers-name _ d.b f.b.0)
      (refers-name _ d.c f.c.0) h

-- Renaming by f what is renamed by c keeps operands: x becomes f x.
module _ (c f : ℕ → ℕ) where
  abbrev twice : ℕ → ℕ
  twice y = f (c y)

  refers-on : (o : Operand) (y x : ℕ) → refers o (renamed_number c o y) x ≡ true
      → refers o (renamed_number twice o y) (f x) ≡ true
  unfolding refers renamed_number
  refers-on Unused y x e = e
  refers-on (Earlier s) y x e = eq-eqb (f (c y)) (f x) (ap f (eqb-true (c y) x e))
  refers-on (Anywhere s) y x e = eq-eqb (f (c y)) (f x) (ap f (eqb-true (c y) x e))
  refers-on (Below m) y x e = e
  refers-on Velocity y x e = e

  pub uses-on : (e : Equation) (x : ℕ) → uses (renamed c e) x ≡ true → uses (renamed (λ y. f (c y)) e) (f x) ≡ true
  unfolding renamed
  uses-on e x h =
      let d = renamed twice e in
      uses-cases (renamed c e) x (λ q. uses-a d (f x) (refers-on (shape_in e).a e.a x q))
      (λ q. uses-b d (f x) (refers-on (shape_in e).b e.b x q))
      (λ q. uses-c d (f x) (refers-on (shape_in e).c e.c x q)) h
