-- One pass over a tree's records tells whether the parameters that the tree names have the same values on both sides.
-- Assumes nothing.
use mathlib.Core.Bool.{Bool, true, false, true≢false, false≢true, not, ◌&&◌, ◌||◌, or-true}
use mathlib.Core.List.{List, [], ◌∷◌}
use mathlib.Core.Path.{◌≡◌, refl, sym, ◌∙◌}
use Prim.Native.Nat.{ℕ}
use lib.Dec.{eqb}
use borrow.Author.Tests.{eq-eqb, eqb-true, eqb-false}
use Rattle.lists.specs.Number.{number_at}
use Rattle.lists.proofs.All.{and-true}
use Rattle.formulas.specs.Arena.{record_names, flat}
use Rattle.formulas.specs.Names.{names_parameter}
use Rattle.formulas.specs.Tree.{Tree}
use Rattle.formulas.proofs.Records.{records_name, names-flat}
use Rattle.rules.specs.Computed.{value_agrees, values_agree}
use Rattle.rules.specs.Same.{SameValues}

module _ (ps qs : List ℕ) where
  abbrev Equal : ℕ → Type 0
  Equal j = number_at ps j ≡ number_at qs j

  -- ---- one record

  -- A record whose values agree: the parameter that it names has one value;
  one-equal : (k b c j : ℕ) → value_agrees ps qs k b c ≡ true → record_names k b && eqb c j ≡ true → Equal j
  one-equal k b c j = go (record_names k b)
    where
      go : (x : Bool) → not x || eqb (number_at ps c) (number_at qs c) ≡ true → x && eqb c j ≡ true → Equal j
      go true e n = rw (← eqb-true c j n) (eqb-true (number_at ps c) (number_at qs c) e)
      go false e n = absurd (false≢true n)

  -- one whose values do not agree names a parameter with two values.
  one-differs : (k b c : ℕ) → value_agrees ps qs k b c ≡ false → (record_names k b ≡ true) × (Equal c → ⊥)
  one-differs k b c = go (record_names k b) refl
    where
      go : (x : Bool) → record_names k b ≡ x → not x || eqb (number_at ps c) (number_at qs c) ≡ false
          → (record_names k b ≡ true) × (Equal c → ⊥)
      go true p e = (p, eqb-false (number_at ps c) (number_at qs c) e)
      go false p e = absurd (true≢false e)

  -- ---- all records

  -- Where the pass says yes, each parameter that a record names has one value;
  agree-equal : (r : List ℕ) → values_agree ps qs r ≡ true → (j : ℕ) → records_name r j ≡ true → Equal j
  unfolding values_agree records_name
  agree-equal [] e j n = absurd (false≢true n)
  agree-equal (k ∷ []) e j n = absurd (false≢true n)
  agree-equal (k ∷ a ∷ []) e j n = absurd (false≢true n)
  agree-equal (k ∷ a ∷ b ∷ []) e j n = absurd (false≢true n)
  agree-equal (k ∷ a ∷ b ∷ c ∷ r) e j n =
      let both = and-true (value_agrees ps qs k b c) (values_agree ps qs r) e in
      go (record_names k b && eqb c j) n (one-equal k b c j both.0) (agree-equal r both.1 j)
    where
      go : (x : Bool) → x || records_name r j ≡ true → (x ≡ true → Equal j) → (records_name r j ≡ true → Equal j)
          → Equal j
      go true n here later = here refl
      go false n here later = later n

  -- where it says no, a record names one with two values.
  abbrev Differing : List ℕ → Type 0
  Differing r = (j : ℕ) × (records_name r j ≡ true) × (Equal j → ⊥)

  disagree-differs : (r : List ℕ) → values_agree ps qs r ≡ false → Differing r
  unfolding values_agree records_name
  disagree-differs [] e = absurd (true≢false e)
  disagree-differs (k ∷ []) e = absurd (true≢false e)
  disagree-differs (k ∷ a ∷ []) e = absurd (true≢false e)
  disagree-differs (k ∷ a ∷ b ∷ []) e = absurd (true≢false e)
  disagree-differs (k ∷ a ∷ b ∷ c ∷ r) e = go (value_agrees ps qs k b c) refl e (disagree-differs r)
    where
      go : (x : Bool) → value_agrees ps qs k b c ≡ x → x && values_agree ps qs r ≡ false
          → (values_agree ps qs r ≡ false → Differing r) → Differing (k ∷ a ∷ b ∷ c ∷ r)
      go true p e later = let w = later e in (w.0, rw w.1 (or-true (record_names k b && eqb c w.0)), w.2)
      go false p e later = let w = one-differs k b c p in (c, rw (w.0, eq-eqb c c refl), w.1)

  -- ---- of a tree

  pub agree_same : (t : Tree) → values_agree ps qs (flat t) ≡ true → SameValues t ps qs
  agree_same t e j n = agree-equal (flat t) e j (names-flat j t ∙ n)

  pub disagree-two : (t : Tree) → values_agree ps qs (flat t) ≡ false
      → (j : ℕ) × (names_parameter t j ≡ true) × (number_at ps j ≡ number_at qs j → ⊥)
  disagree-two t e = let w = disagree-differs (flat t) e in (w.0, sym (names-flat w.0 t) ∙ w.1, w.2)

  -- And the other way round.
  pub same-agree : (t : Tree) → SameValues t ps qs → values_agree ps qs (flat t) ≡ true
  same-agree t h = go (values_agree ps qs (flat t)) refl
    where
      go : (x : Bool) → values_agree ps qs (flat t) ≡ x → x ≡ true
      go true e = refl
      go false e = let w = disagree-two t e in absurd (w.2 (h w.0 w.1))

  pub two-disagree : (t : Tree) (j : ℕ) → names_parameter t j ≡ true → (number_at ps j ≡ number_at qs j → ⊥)
      → values_agree ps qs (flat t) ≡ false
  two-disagree t j n h = go (values_agree ps qs (flat t)) refl
    where
      go : (x : Bool) → values_agree ps qs (flat t) ≡ x → x ≡ false
      go true e = absurd (h (agree_same t e j n))
      go false e = refl
