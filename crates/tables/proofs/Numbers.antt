-- The kinds by their numbers: what holds of a kind, said as tests on its number.
-- Assumes nothing.
use mathlib.Core.Path.{◌≡◌, refl, ◌∙◌}
use mathlib.Core.Bool.{false, not, ◌&&◌, cond}
use mathlib.Core.List.{[], ◌∷◌, map}
use Prim.Native.Nat.{ℕ, ◌≤◌}
use native.Mathlib.Omega.{arith}
use native.Mathlib.Decide.{dec_lt}
use lib.Dec.{leb}
use lib.ListN.{get_or-eq_default}
use borrow.Author.Tests.{lt-leb, le-leb}
use Rattle.tables.specs.Kind.{SIGNAL, START, CONSTANT, NOT, AND, OR, BOOLEAN-PRE, COUNT-PRE, CAPPED, IF}
use Rattle.tables.specs.Kind.{COMPARE-LITERAL, COMPARE-PARAMETER, VELOCITY, kind_count}
use Rattle.tables.specs.Table.{kinds, kind_of, shape_of, sort_of, same_sort, all}
use Rattle.tables.specs.declared.Kind.{Kind}
use Rattle.tables.specs.Table.{is_memory}
use Rattle.tables.specs.declared.Sort.{Sort}
use Rattle.tables.specs.declared.Sort.TheVariants.{Boolean, Count}
use Rattle.std.specs.Prelude.{Option, Some, None}
use Rattle.tables.proofs.Tests.{agrees}

-- The numbers by name are those of the list of kinds, in its order.
numbered :
    map kind_of
    (SIGNAL ∷ START ∷ CONSTANT ∷ NOT ∷ AND ∷ OR ∷ BOOLEAN-PRE ∷ COUNT-PRE ∷ CAPPED ∷ IF ∷ COMPARE-LITERAL
    ∷ COMPARE-PARAMETER ∷ VELOCITY ∷ [])
    ≡ map Some kinds
unfolding kind_of
numbered = refl

-- The numbers after the last kind are no kinds.
pub kind_beyond : (k : ℕ) → kind_count ≤ k → kind_of k ≡ None
unfolding kind_of
kind_beyond k h = get_or-eq_default (map Some kinds) None h

-- The number k, where it is j and j has that kind.
pub named_is : (k j : ℕ) (x : Kind) → k ≡ j → kind_of j ≡ Some x → kind_of k ≡ Some x
named_is k j x e h = rw e h

-- What holds of the kind of k, where that is x.
pub row_is : (q x : Option Kind) → q ≡ x → shape_of x ≡ shape_of q
row_is q x e = rw e

-- A flow is a boolean if it is no count.
pub boolean-or-count : (s : Sort) → same_sort s Boolean ≡ not (same_sort s Count)
unfolding same_sort
boolean-or-count Boolean = refl
boolean-or-count Count = refl

by-count : (s : Sort) → s ≡ cond (same_sort s Count) Count Boolean
unfolding same_sort
by-count Boolean = refl
by-count Count = refl

counting : (k : ℕ) → same_sort (sort_of (kind_of k)) Count ≡ (leb COUNT-PRE k && leb k IF)
unfolding kind_of shape_of same_sort all
counting k = elim (dec_lt k kind_count) [
  | yes h ↦
      agrees (λ j. same_sort (sort_of (kind_of j)) Count) (λ j. leb COUNT-PRE j && leb j IF) kind_count refl k h
  | no h ↦ rw (kind_beyond k (omega arith), le-leb COUNT-PRE k (omega arith), lt-leb k IF (omega arith))
]

-- The counts by the numbers of their kinds.
pub counts : (k : ℕ) → sort_of (kind_of k) ≡ cond (leb COUNT-PRE k && leb k IF) Count Boolean
counts k = rw (← counting k) (by-count (sort_of (kind_of k)))

-- SPEC 5.7: the memories by the numbers of their kinds.
pub memories : (k : ℕ) → is_memory (kind_of k) ≡ (leb BOOLEAN-PRE k && leb k COUNT-PRE)
unfolding kind_of is_memory all
memories k = elim (dec_lt k kind_count) [
  | yes h ↦ agrees (λ j. is_memory (kind_of j)) (λ j. leb BOOLEAN-PRE j && leb j COUNT-PRE) kind_count refl k h
  | no h ↦ rw (kind_beyond k (omega arith), le-leb BOOLEAN-PRE k (omega arith), lt-leb k COUNT-PRE (omega arith))
]

-- No other number is a memory's.
pub no-memory : (k : ℕ) → (k ≡ BOOLEAN-PRE → ⊥) → (k ≡ COUNT-PRE → ⊥) → is_memory (kind_of k) ≡ false
no-memory k p q = memories k ∙ outside
  where
    outside : (leb BOOLEAN-PRE k && leb k COUNT-PRE) ≡ false
    outside = elim (dec_lt k BOOLEAN-PRE) [
      | yes h ↦ rw (lt-leb BOOLEAN-PRE k h)
      | no h ↦ rw (le-leb BOOLEAN-PRE k (omega arith), lt-leb k COUNT-PRE (omega arith))
    ]
