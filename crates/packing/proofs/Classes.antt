-- The classes (SPEC 16.2): n·n rounds settle them, as no round merges what an earlier one told apart. Then equations
-- are of one class just if they have the same key, and just if they cannot be told apart, and a class is its first
-- equation. Classes that a round leaves as they are, and that these refine, are equal to these, so a program may reach
-- them by other rounds. Assumes nothing.
use mathlib.Core.Path.{◌≡◌, refl, ◌∙◌, sym, ap}
use mathlib.Core.Bool.{Bool, true, ◌&&◌}
use mathlib.Core.List.{List}
use Prim.Native.Nat.{ℕ, zero, suc, ◌*◌, ◌≤◌, ◌<◌}
use native.Mathlib.Omega.{arith}
use native.Mathlib.Nat.{le_antisymm}
use lib.Dec.{ltb, eqb}
use borrow.Author.Tests.{ltb-true, lt-ltb, eqb-true, eq-eqb}
use Rattle.tables.specs.Table.{all, equation_at, equation_fits}
use Rattle.tables.proofs.Tests.{and-true, all-at}
use Rattle.packing.specs.Pack.{key_at, same_key, pass, rounds, classes}
use Rattle.packing.specs.Laws.{Alike, Merged, Represents}
use Rattle.packing.proofs.Searches.{first-le, first_passes, first-least, settled}
use Rattle.packing.proofs.Keys.{same_true, true_same, SameName, key-alike, alike-key, alike-below}

-- A round gives an equation the first that has its key: that one stands no later,
module _ (t : List ℕ) (c : ℕ → ℕ) where
  pub pass_le : (i : ℕ) → pass t c i ≤ i
  unfolding pass
  pass_le i = first-le (same_key t c i) i

  -- it has the key,
  pub pass-key : (i : ℕ) → key_at t c (pass t c i) ≡ key_at t c i
  unfolding pass
  pass-key i = same_true _ _ (first_passes (same_key t c i) i (true_same (key_at t c i) (key_at t c i) refl))

  -- none that has the key stands before it,
  pub pass-least : (i x : ℕ) → key_at t c x ≡ key_at t c i → pass t c i ≤ x
  unfolding pass
  pass-least i x e = first-least (same_key t c i) i x (true_same (key_at t c x) (key_at t c i) e)

  -- and it is one for all that have the key.
  pub pass_same : (i j : ℕ) → key_at t c i ≡ key_at t c j → pass t c i ≡ pass t c j
  pass_same i j e =
      le_antisymm (pass-least i (pass t c j) (pass-key j ∙ sym e)) (pass-least j (pass t c i) (pass-key i ∙ e))

-- Equations below n of one class by f are of one class by g.
abbrev pub Finer : ℕ → (ℕ → ℕ) → (ℕ → ℕ) → Type 0
Finer n f g = (x y : ℕ) → x < n → y < n → f x ≡ f y → g x ≡ g y

-- A round changes no class.
abbrev pub Fixed : List ℕ → ℕ → (ℕ → ℕ) → Type 0
Fixed t n c = (i : ℕ) → i < n → c i ≡ pass t c i

-- What packing needs of the classes c of n equations.
pub record Classes (t : List ℕ) (n : ℕ) (c : ℕ → ℕ) : Type 0 where
  -- The class of an equation is one that stands no later,
  pub least : (i : ℕ) → i < n → c i ≤ i
  -- and that has its key.
  pub key : (i : ℕ) → i < n → key_at t c (c i) ≡ key_at t c i
  -- Equations with the same key are of one class.
  pub one : (i j : ℕ) → i < n → j < n → key_at t c i ≡ key_at t c j → c i ≡ c j

module _ (t : List ℕ) (n : ℕ) (c : ℕ → ℕ) where
  -- A fixed point of a round is as packing needs it.
  pub fixed-classes : Fixed t n c → Classes t n c
  fixed-classes e =
      record {
        least = λ i l. rw (e i l) (pass_le t c i);
        key = λ i l. ap (key_at t c) (e i l) ∙ pass-key t c i;
        one = λ i j u v q. e i u ∙ pass_same t c i j q ∙ sym (e j v);
      }

  module _ (C : Classes t n c) where
    -- Equations of one class have the same key.
    pub classed : (i j : ℕ) → i < n → j < n → c i ≡ c j → key_at t c i ≡ key_at t c j
    classed i j u v e = sym (C.key i u) ∙ ap (key_at t c) e ∙ C.key j v

    -- A class is its own class.
    pub class-fixed : (i : ℕ) → i < n → c (c i) ≡ c i
    class-fixed i l = let k = C.least i l in C.one (c i) i (omega arith) l (C.key i l)

module _ (velocities : ℕ) (t : List ℕ) (n : ℕ) (fit : all (equation_fits velocities t n) n ≡ true) where
  -- Each equation fits.
  fit_at : (i : ℕ) → i < n → equation_fits velocities t n i ≡ true
  fit_at = all-at (equation_fits velocities t n) n fit

  -- Equations that are alike by R are alike by S where R gives S of equations below n.
  alike-fit : (R S : ℕ → ℕ → Type 0) → ((x y : ℕ) → x < n → y < n → R x y → S x y) → (x y : ℕ) → x < n → y < n
      → Alike R (equation_at t x) (equation_at t y) → Alike S (equation_at t x) (equation_at t y)
  alike-fit R S give x y u v =
      alike-below velocities t n x y (omega arith) (omega arith) R S give _ _ (fit_at x u) (fit_at y v)

  -- Equations with the same key by finer classes have the same key by the coarser ones,
  pub keys-finer : (f g : ℕ → ℕ) → Finer n f g → (x y : ℕ) → x < n → y < n
      → key_at t f x ≡ key_at t f y → key_at t g x ≡ key_at t g y
  keys-finer f g h x y u v e =
      alike-key g _ _ (alike-fit (SameName f) (SameName g) h x y u v (key-alike f _ _ e))

  -- so a round of the finer ones gives finer classes,
  pub pass-finer : (f g : ℕ → ℕ) → Finer n f g → Finer n (pass t f) (pass t g)
  pass-finer f g h x y u v e =
      pass_same t g x y (keys-finer f g h x y u v (sym (pass-key t f x) ∙ ap (key_at t f) e ∙ pass-key t f y))

  -- and none that stands earlier.
  pub pass-later : (f g : ℕ → ℕ) → Finer n f g → (i : ℕ) → i < n → pass t g i ≤ pass t f i
  pass-later f g h i l =
      let k = pass_le t f i in
      pass-least t g i (pass t f i) (keys-finer f g h (pass t f i) i (omega arith) l (pass-key t f i))

  -- A round of equal classes gives equal classes.
  pub agreed : (f g : ℕ → ℕ) → ((i : ℕ) → i < n → f i ≡ g i) → (i : ℕ) → i < n → pass t f i ≡ pass t g i
  agreed f g h i l =
      le_antisymm (pass-later g f (λ x y u v e. h x u ∙ e ∙ sym (h y v)) i l)
      (pass-later f g (λ x y u v e. sym (h x u) ∙ e ∙ h y v) i l)

  -- Each round refines the classes of the round before,
  pub rounds-finer : (k : ℕ) → Finer n (rounds t (suc k)) (rounds t k)
  unfolding rounds
  rounds-finer zero = λ x y u v e. refl
  rounds-finer (suc k) = pass-finer (rounds t (suc k)) (rounds t k) (rounds-finer k)

  -- gives none that stands earlier,
  rise : (k i : ℕ) → i < n → rounds t k i ≤ rounds t (suc k) i
  unfolding rounds
  rise zero i l = omega arith
  rise (suc k) i l = pass-later (rounds t (suc k)) (rounds t k) (rounds-finer k) i l

  -- and none that is not below n,
  low : (k i : ℕ) → i < n → rounds t k i < n
  unfolding rounds
  low zero i l = omega arith
  low (suc k) i l = omega (arith, pass_le t (rounds t k) i)

  -- so n·n rounds settle them,
  pub classes-settled : (i : ℕ) → i < n → classes t n i ≡ pass t (classes t n) i
  unfolding rounds
  classes-settled = settled (rounds t) n n rise low (λ k. agreed (rounds t k) (rounds t (suc k)))

  -- and they are as packing needs them.
  pub classes-fit : Classes t n (classes t n)
  classes-fit = fixed-classes t n (classes t n) classes-settled

  -- What a relation that its operands keep relates is of one class after any number of rounds.
  rounds-keep : (R : ℕ → ℕ → Type 0)
      → ((x y : ℕ) → x < n → y < n → R x y → Alike R (equation_at t x) (equation_at t y))
      → (k x y : ℕ) → x < n → y < n → R x y → rounds t k x ≡ rounds t k y
  unfolding rounds
  rounds-keep R keeps zero x y u v r = refl
  rounds-keep R keeps (suc k) x y u v r =
      let c = rounds t k in
      pass_same t c x y
      (alike-key c _ _ (alike-fit R (SameName c) (rounds-keep R keeps k) x y u v (keeps x y u v r)))

  -- So a fixed point refines the classes of every round, and it is equal to the classes if they refine it.
  pub fixed-finer : (c : ℕ → ℕ) → Fixed t n c → (k : ℕ) → Finer n c (rounds t k)
  fixed-finer c e =
      rounds-keep (SameName c)
      (λ x y u v q. key-alike c _ _ (classed t n c (fixed-classes t n c e) x y u v q))

  pub coarsest : (c : ℕ → ℕ) → Fixed t n c → Finer n (classes t n) c → (i : ℕ) → i < n → c i ≡ classes t n i
  coarsest c e h i l =
      e i l
      ∙ le_antisymm (pass-later (classes t n) c h i l) (pass-later c (classes t n) (fixed-finer c e (n * n)) i l)
      ∙ sym (classes-settled i l)

  -- Equations that cannot be told apart are of one class,
  pub merged-class : (i j : ℕ) → i < n → j < n → Merged t i j → classes t n i ≡ classes t n j
  merged-class i j u v M =
      rounds-keep (λ x y. M.related x y ≡ true) (λ x y p q. M.alike x y) (n * n) i j u v M.both

  -- and those of one class, both below n, cannot be told apart.
  abbrev one_class : ℕ → ℕ → Bool
  one_class x y = ltb x n && (ltb y n && eqb (classes t n x) (classes t n y))

  one_class_lem : (x y : ℕ) → x < n → y < n → classes t n x ≡ classes t n y → one_class x y ≡ true
  one_class_lem x y u v e = rw (lt-ltb x n u, lt-ltb y n v, eq-eqb _ _ e)

  one-class-alike : (x y : ℕ) → one_class x y ≡ true
      → Alike (λ a b. one_class a b ≡ true) (equation_at t x) (equation_at t y)
  one-class-alike x y h =
      let c = classes t n in
      let p = and-true (ltb x n) _ h in
      let q = and-true (ltb y n) _ p.1 in
      let u = ltb-true x n p.0 in
      let v = ltb-true y n q.0 in
      alike-fit (SameName c) (λ a b. one_class a b ≡ true) one_class_lem x y u v
      (key-alike c _ _ (classed t n c classes-fit x y u v (eqb-true (c x) (c y) q.1)))

  pub class-merged : (i j : ℕ) → i < n → j < n → classes t n i ≡ classes t n j → Merged t i j
  class-merged i j u v e = record { related = one_class; alike = one-class-alike; both = one_class_lem i j u v e }

  -- The class of an equation is the first that cannot be told from it.
  pub represents : (i : ℕ) → i < n → Represents t n (classes t n i) i
  represents i l =
      let k = classes-fit.least i l in
      record {
        merged = class-merged (classes t n i) i (omega arith) l (class-fixed t n (classes t n) classes-fit i l);
        first = λ j u M. rw (← merged-class j i u l M) (classes-fit.least j u);
      }
