-- A quicker round takes the classes of this round for operands that stand before, and of the round before for those of
-- memories. It is refined by the classes and refines the round before, no entry falls, and one that changes nothing has
-- found the classes (SPEC 16.2). Assumes nothing.
use mathlib.Core.Path.{◌≡◌, refl, ◌∙◌, sym, ap}
use mathlib.Core.Bool.{true}
use mathlib.Core.List.{List}
use Prim.Native.Nat.{ℕ, zero, suc, ◌≤◌, ◌<◌}
use native.Mathlib.Omega.{arith}
use native.Mathlib.Nat.{le_antisymm}
use native.Mathlib.Decide.{dec_le, ℕ_discrete}
use Rattle.tables.specs.Table.{all, equation_at, equation_fits, operand_fits}
use Rattle.tables.specs.declared.Operand.{Operand}
use Rattle.tables.specs.declared.Operand.TheVariants.{Unused, Earlier, Anywhere, Below, Velocity}
use Rattle.tables.proofs.Tests.{all-at}
use Rattle.flows.proofs.Ranges.{flow-below}
use Rattle.packing.specs.Search.{first}
use Rattle.packing.specs.Pack.{same_equation, renamed_number, renamed, pass, classes}
use Rattle.packing.proofs.Searches.{first-le, first_passes, first-least, first-agree}
use Rattle.packing.proofs.Keys.{equation-same, same_true, true_same, Fit, both-fit}
use Rattle.packing.proofs.Classes.{Finer, classes-settled, coarsest}
use Rattle.packer.specs.Round.{mixed_number, mixed, quick_key, same_quick_key, Quick}
use Rattle.tables.specs.declared.Equation.{Equation}

-- With the same classes of both rounds, a key is that of the definition, and so is the first equation that has it.
mixed_one : (f : ℕ → ℕ) (o : Operand) (x : ℕ) → mixed_number f f o x ≡ renamed_number f o x
unfolding mixed_number renamed_number
mixed_one f Unused x = refl
mixed_one f (Earlier s) x = refl
mixed_one f (Anywhere s) x = refl
mixed_one f (Below m) x = refl
mixed_one f Velocity x = refl

pub mixed-renamed : (f : ℕ → ℕ) (e : Equation) → mixed f f e ≡ renamed f e
unfolding mixed renamed
mixed-renamed f e = equation-same _ _ refl (mixed_one f _ _) (mixed_one f _ _) (mixed_one f _ _)

quick-pass : (t : List ℕ) (c : ℕ → ℕ) (i : ℕ) → first (same_quick_key t c c i) i ≡ pass t c i
unfolding pass
quick-pass t c i =
    λ a. first (λ j. same_equation (mixed-renamed c (equation_at t j) a) (mixed-renamed c (equation_at t i) a)) i

-- The first equation with the key of equation i has the key, and none that has it stands before.
module _ (t : List ℕ) (p c : ℕ → ℕ) (i : ℕ) where
  abbrev found : ℕ
  found = first (same_quick_key t c p i) i

  found-key : quick_key t c p found ≡ quick_key t c p i
  found-key = same_true _ _ (first_passes (same_quick_key t c p i) i (true_same _ (quick_key t c p i) refl))

  found-least : (x : ℕ) → quick_key t c p x ≡ quick_key t c p i → found ≤ x
  found-least x e = first-least (same_quick_key t c p i) i x (true_same (quick_key t c p x) (quick_key t c p i) e)

-- The classes c of n equations in a quicker round after p.
module _ (t : List ℕ) (n : ℕ) (p c : ℕ → ℕ) (Q : Quick t n p c) where
  -- A class is no later than its members, it has their key, and none with that key stands before.
  pub quick-le : (i : ℕ) → i < n → c i ≤ i
  quick-le i l = rw (Q.entry i l) (first-le _ i)

  quick-key : (i : ℕ) → i < n → quick_key t c p (c i) ≡ quick_key t c p i
  quick-key i l = ap (quick_key t c p) (Q.entry i l) ∙ found-key t p c i

  quick-least : (i x : ℕ) → i < n → quick_key t c p x ≡ quick_key t c p i → c i ≤ x
  quick-least i x l e = rw (Q.entry i l) (found-least t p c i x e)

  -- Equations with the same key are of one class.
  quick-same : (i j : ℕ) → i < n → j < n → quick_key t c p i ≡ quick_key t c p j → c i ≡ c j
  quick-same i j u v e =
      le_antisymm (quick-least i (c j) u (quick-key j v ∙ sym e)) (quick-least j (c i) v (quick-key i u ∙ e))

  -- The class of the next equation, n, if it is found before, is a class,
  next-class : found t p c n < n → c (found t p c n) ≡ found t p c n
  next-class l =
      le_antisymm (quick-le _ l) (found-least t p c n _ (quick-key _ l ∙ found-key t p c n))

  -- it is the class of each before that has the same key,
  pub next-found : (x : ℕ) → x < n → quick_key t c p x ≡ quick_key t c p n → found t p c n ≡ c x
  next-found x l e =
      let u = found-least t p c n x e in
      sym (next-class (omega arith)) ∙ quick-same (found t p c n) x (omega arith) l (found-key t p c n ∙ sym e)

  -- and it is n itself where no class before has the same key. So a search has to look at classes only.
  pub next-none : ((y : ℕ) → y < n → c y ≡ y → quick_key t c p y ≡ quick_key t c p n → ⊥) → found t p c n ≡ n
  next-none none =
      elim (dec_le n (found t p c n)) [
        | yes g ↦ le_antisymm (first-le (same_quick_key t c p n) n) g
        | no g ↦ absurd (none (found t p c n) (omega arith) (next-class (omega arith)) (found-key t p c n))
      ]

module _ (velocities : ℕ) (t : List ℕ) (n : ℕ) (fit : all (equation_fits velocities t n) n ≡ true) where
  -- Of two quicker rounds, the one after finer classes is the finer, and its entries are not lower.
  module _ (p c p' c' : ℕ → ℕ) (Q : Quick t n p c) (Q' : Quick t n p' c') (finer : Finer n p p') where
    -- For the keys of equations i and j it is enough that c refines c' below i and j.
    abbrev FinerBelow : ℕ → ℕ → Type 0
    FinerBelow i j = (x y : ℕ) → x < i → y < j → c x ≡ c y → c' x ≡ c' y

    number-finer : (i j : ℕ) → FinerBelow i j → (o : Operand) (x y : ℕ) → Fit velocities t n i j o x y
        → mixed_number c p o x ≡ mixed_number c p o y → mixed_number c' p' o x ≡ mixed_number c' p' o y
    unfolding mixed_number operand_fits
    number-finer i j below Unused x y f e = e
    number-finer i j below (Earlier s) x y f e = below x y (flow-below t i s x f.0) (flow-below t j s y f.1) e
    number-finer i j below (Anywhere s) x y f e = finer x y (flow-below t n s x f.0) (flow-below t n s y f.1) e
    number-finer i j below (Below m) x y f e = e
    number-finer i j below Velocity x y f e = e

    key-finer : (i j : ℕ) → i < n → j < n → FinerBelow i j → quick_key t c p i ≡ quick_key t c p j
        → quick_key t c' p' i ≡ quick_key t c' p' j
    unfolding mixed
    key-finer i j u v below h =
        let d = equation_at t i in
        let e = equation_at t j in
        let k : d.kind ≡ e.kind = ap (λ x. x.kind) h in
        let f = both-fit velocities t n i j d e k (all-at (equation_fits velocities t n) n fit i u)
        (all-at (equation_fits velocities t n) n fit j v) in
        let number = number-finer i j below in
        equation-same _ _ k
        (number _ _ _ f.a (rw (← k) at (ap (λ x. x.a) h)) ∙ rw k)
        (number _ _ _ f.b (rw (← k) at (ap (λ x. x.b) h)) ∙ rw k)
        (number _ _ _ f.c (rw (← k) at (ap (λ x. x.c) h)) ∙ rw k)

    finer-below : (m : ℕ) → m ≤ n → FinerBelow m m
    finer-below zero l x y u v e = absurd (omega arith)
    finer-below (suc m) l x y u v e =
        let before = finer-below m (omega arith) in
        quick-same t n p' c' Q' x y (omega arith) (omega arith)
        (key-finer x y (omega arith) (omega arith) (λ a b g h. before a b (omega arith) (omega arith))
        (sym (quick-key t n p c Q x (omega arith)) ∙ ap (quick_key t c p) e ∙ quick-key t n p c Q y (omega arith)))

    pub quick-finer : Finer n c c'
    quick-finer = finer-below n (omega arith)

    pub quick-later : (i : ℕ) → i < n → c' i ≤ c i
    quick-later i l =
        let u = quick-le t n p c Q i l in
        quick-least t n p' c' Q' i (c i) l
        (key-finer (c i) i (omega arith) l (λ a b g h. quick-finer a b (omega arith) (omega arith))
        (quick-key t n p c Q i l))

  -- The classes are the quicker round after themselves,
  quick-classes : Quick t n (classes t n) (classes t n)
  quick-classes = record { entry = λ i l. classes-settled velocities t n fit i l ∙ sym (quick-pass t (classes t n) i) }

  -- so they refine each quicker round after classes that they refine.
  pub quick-coarser : (p c : ℕ → ℕ) → Quick t n p c → Finer n (classes t n) p → Finer n (classes t n) c
  quick-coarser p c Q h = quick-finer (classes t n) (classes t n) p c quick-classes Q h

  -- A quicker round after itself has found the classes.
  pub quick-fixed : (c : ℕ → ℕ) → Quick t n c c → Finer n (classes t n) c → (i : ℕ) → i < n → c i ≡ classes t n i
  quick-fixed c Q h = coarsest velocities t n fit c (λ i l. Q.entry i l ∙ quick-pass t c i) h

  -- A quicker round is by the classes before it of all n equations, and by its own of those below i.
  module _ (p p' c c' : ℕ → ℕ) (i : ℕ) (before : (x : ℕ) → x < n → p x ≡ p' x)
      (kept : (x : ℕ) → x < i → c x ≡ c' x) where
    number-agree : (j : ℕ) → j ≤ i → (o : Operand) (x : ℕ) → operand_fits velocities t n j o x ≡ true
        → mixed_number c p o x ≡ mixed_number c' p' o x
    unfolding mixed_number operand_fits
    number-agree j u Unused x f = refl
    number-agree j u (Earlier s) x f = let v = flow-below t j s x f in kept x (omega arith)
    number-agree j u (Anywhere s) x f = before x (flow-below t n s x f)
    number-agree j u (Below m) x f = refl
    number-agree j u Velocity x f = refl

    -- Where these are the same, so are the keys of equations up to i,
    pub key-agree : (j : ℕ) → j ≤ i → j < n → quick_key t c p j ≡ quick_key t c' p' j
    unfolding mixed
    key-agree j u v =
        let d = equation_at t j in
        let h = all-at (equation_fits velocities t n) n fit j v in
        let f = both-fit velocities t n j j d d refl h h in
        equation-same _ _ refl (number-agree j u _ d.a f.a.0) (number-agree j u _ d.b f.b.0)
        (number-agree j u _ d.c f.c.0)

    -- the first equation with such a key,
    found-agree : (x : ℕ) → x ≤ i → x < n → found t p c x ≡ found t p' c' x
    found-agree x u v =
        first-agree (same_quick_key t c p x) (same_quick_key t c' p' x) x
        (λ j w. rw (key-agree j (omega arith) (omega arith), key-agree x u v))

    -- and the round so far;
    pub quick-agree : i ≤ n → Quick t i p c → Quick t i p' c'
    quick-agree l Q =
        record { entry = λ x u. sym (kept x u) ∙ Q.entry x u ∙ found-agree x (omega arith) (omega arith) }

    -- and with the class of equation i it is a round of one equation more.
    pub quick-more : i < n → Quick t i p c → c' i ≡ found t p c i → Quick t (suc i) p' c'
    quick-more l Q e =
        let below = quick-agree (omega arith) Q in
        record {
          entry = λ x u. elim (ℕ_discrete x i) [
            | yes q ↦ rw q (e ∙ found-agree i (omega arith) l)
            | no q ↦ below.entry x (omega arith)
          ];
        }
