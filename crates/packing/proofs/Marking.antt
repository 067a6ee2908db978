-- The marks (SPEC 16.3): 2·n steps settle them, and then they are the least that hold of the last two and, with an
-- equation, of the classes of its operands. What holds of all that is marked is proved by `marks-induct`.
-- Assumes nothing.
use mathlib.Core.Path.{◌≡◌, ◌∙◌, sym, ap}
use mathlib.Core.Bool.{Bool, true, false, ◌&&◌, ◌||◌}
use mathlib.Core.List.{List}
use mathlib.Core.Logic.{◌⊎◌, inl, inr, ⊎_elim}
use Prim.Native.Nat.{ℕ, zero, suc, ◌+◌, ◌*◌, ◌≤◌, ◌<◌}
use native.Mathlib.Omega.{arith}
use borrow.Author.Tests.{le-leb, leb-true}
use Rattle.traces.specs.Trace.{truth}
use Rattle.traces.proofs.Laws.{nonzero-truth}
use Rattle.tables.specs.Table.{all, equation_at, equation_fits, closing_count}
use Rattle.tables.proofs.Tests.{and-true, all-at}
use Rattle.packing.specs.Search.{some}
use Rattle.packing.specs.Operands.{uses}
use Rattle.packing.specs.Pack.{key_at, reaches, marks}
use Rattle.packing.proofs.Searches.{or_right, or_cases, both_ways, some_of, some_at, some_same, settled}
use Rattle.packing.proofs.Keys.{uses-name}
use Rattle.packing.proofs.Classes.{Classes, class-fixed}

-- What packing needs of the marks m of n equations with classes c.
pub record Marks (t : List ℕ) (n : ℕ) (c : ℕ → ℕ) (m : ℕ → Bool) : Type 0 where
  -- The last two are marked,
  pub last : (i : ℕ) → n ≤ i + closing_count → m i ≡ true
  -- and with an equation the classes of its operands.
  pub closed : (j : ℕ) → j < n → m j ≡ true → (x : ℕ) → x < n → uses (key_at t c j) x ≡ true → m x ≡ true
  -- A marked equation is one of the last two, or its own class.
  pub class : (i : ℕ) → i < n → m i ≡ true → (n ≤ i + closing_count) ⊎ (c i ≡ i)

-- Truth values as numbers: they are below 2, they do not fall by a further `or`, and equal ones are of equal values.
truth-below : (a : Bool) → truth a < 2
truth-below true = omega arith
truth-below false = omega arith

truth-or : (a b : Bool) → truth a ≤ truth (a || b)
truth-or true b = omega arith
truth-or false b = omega arith

truth-one : (a b : Bool) → truth a ≡ truth b → a ≡ b
truth-one a b e = sym (nonzero-truth a) ∙ rw e (nonzero-truth b)

module _ (t : List ℕ) (n : ℕ) (c : ℕ → ℕ) where
  -- What is marked after k steps.
  abbrev marked : ℕ → ℕ → Bool
  marked k = marks t n c k

  -- No step unmarks an equation,
  rise : (k i : ℕ) → i < n → truth (marked k i) ≤ truth (marked (suc k) i)
  unfolding marks
  rise k i l = truth-or (marked k i) _

  -- and after a step that marks none no step marks any,
  stay : (k : ℕ) → ((j : ℕ) → j < n → marked k j ≡ marked (suc k) j)
      → (i : ℕ) → i < n → marked (suc k) i ≡ marked (suc (suc k)) i
  unfolding marks
  stay k e i l =
      let f = reaches t n c (marked k) i in
      let g = reaches t n c (marked (suc k)) i in
      let s = some_same f g n (λ j u. ap (λ (b : Bool). b && uses (key_at t c j) i) (e j u)) in
      ap (λ (b : Bool). b || some f n) (e i l) ∙ ap (λ (b : Bool). marked (suc k) i || b) s

  -- so 2·n steps settle them.
  pub marks-settled : (i : ℕ) → i < n → marks t n c (n * 2) i ≡ marks t n c (suc (n * 2)) i
  marks-settled i l =
      truth-one _ _
      (settled (λ k i. truth (marked k i)) n 2 rise (λ k i u. truth-below (marked k i))
      (λ k h i u. ap truth (stay k (λ j v. truth-one _ _ (h j v)) i u)) i l)

  -- The last two are marked from the start,
  last-marked : (k i : ℕ) → n ≤ i + closing_count → marked k i ≡ true
  unfolding marks
  last-marked zero i l = le-leb n (i + closing_count) l
  last-marked (suc k) i l = rw (last-marked k i l)

  -- and the classes of a marked equation's operands are marked, as a further step would mark nothing.
  used-marked : (j : ℕ) → j < n → marked (n * 2) j ≡ true → (x : ℕ) → x < n → uses (key_at t c j) x ≡ true
      → marked (n * 2) x ≡ true
  unfolding marks
  used-marked j l e x u h =
      marks-settled x u
      ∙ or_right (marked (n * 2) x) _ (some_of (reaches t n c (marked (n * 2)) x) n j l (rw (e, h)))

  -- What holds of the last two and, with an equation, of the classes of its operands holds of all that k steps mark,
  steps-induct : (P : ℕ → Type 0) → ((i : ℕ) → i < n → n ≤ i + closing_count → P i)
      → ((j i : ℕ) → j < n → i < n → P j → uses (key_at t c j) i ≡ true → P i)
      → (k i : ℕ) → i < n → marked k i ≡ true → P i
  unfolding marks
  steps-induct P base step zero i l e = base i l (leb-true n (i + closing_count) e)
  steps-induct P base step (suc k) i l e =
      ⊎_elim (steps-induct P base step k i l)
      (λ q. let p = some_at (reaches t n c (marked k) i) n q in
      let r = and-true (marked k p.0) _ p.2 in
      step p.0 i p.1 l (steps-induct P base step k p.0 p.1 r.0) r.1)
      (or_cases (marked k i) _ e)

  -- and of all that is kept, also if it needs that the equation is kept to hold of the classes of its operands.
  pub marks-induct : (P : ℕ → Type 0) → ((i : ℕ) → i < n → n ≤ i + closing_count → P i)
      → ((j i : ℕ) → j < n → i < n → marks t n c (n * 2) j ≡ true → P j → uses (key_at t c j) i ≡ true → P i)
      → (i : ℕ) → i < n → marks t n c (n * 2) i ≡ true → P i
  marks-induct P base step i l e =
      (steps-induct (λ x. (marked (n * 2) x ≡ true) × P x) (λ x u h. (last-marked (n * 2) x h, base x u h))
      (λ y x u v p h. (used-marked y u p.0 x v h, step y x u v p.0 p.1 h)) (n * 2) i l e).1

  -- Marks that hold of the last two and, with an equation, of the classes of its operands, and of nothing that is not
  -- kept, hold of what is kept.
  pub marks-are : (m : ℕ → Bool) → ((i : ℕ) → i < n → n ≤ i + closing_count → m i ≡ true)
      → ((j : ℕ) → j < n → m j ≡ true → (x : ℕ) → x < n → uses (key_at t c j) x ≡ true → m x ≡ true)
      → ((i : ℕ) → i < n → m i ≡ true → marks t n c (n * 2) i ≡ true)
      → (i : ℕ) → i < n → m i ≡ marks t n c (n * 2) i
  marks-are m last closed kept i l =
      both_ways (m i) (marked (n * 2) i) (kept i l)
      (marks-induct (λ x. m x ≡ true) last (λ j x u v e p h. closed j u p x v h) i l)

-- What 2·n steps mark is as packing needs it.
pub marks-fit : (velocities : ℕ) (t : List ℕ) (n : ℕ) (c : ℕ → ℕ) → all (equation_fits velocities t n) n ≡ true
    → Classes t n c → Marks t n c (marks t n c (n * 2))
marks-fit velocities t n c fit C =
    record {
      last = last-marked t n c (n * 2);
      closed = used-marked t n c;
      class = marks-induct t n c (λ i. (n ≤ i + closing_count) ⊎ (c i ≡ i)) (λ i l h. inl h) class-used;
    }
  where
    class-used : (j i : ℕ) → j < n → i < n → marked t n c (n * 2) j ≡ true → (n ≤ j + closing_count) ⊎ (c j ≡ j)
        → uses (key_at t c j) i ≡ true → (n ≤ i + closing_count) ⊎ (c i ≡ i)
    class-used j i u v e p h =
        let w = uses-name velocities t n j (omega arith) c i (equation_at t j)
        (all-at (equation_fits velocities t n) n fit j u) h in
        inr (rw (← w.2) (class-fixed t n c C w.0 w.1))
