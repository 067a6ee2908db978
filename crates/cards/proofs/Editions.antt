-- The first line of a card: it is an edition's line exactly if the test (`edition_of`) has the edition. Assumes
-- nothing.
use mathlib.Core.Path.{◌≡◌, refl, ◌∙◌, sym, ap, subst}
use mathlib.Core.Bool.{Bool, true, false, cond, false≢true}
use mathlib.Core.List.Memᴰ
use mathlib.Core.List.{List, [], ◌∷◌, Memᴰ}
use mathlib.Core.Logic.{inl, inr}
use Prim.Native.Nat.{ℕ}
use native.Mathlib.Omega.{arith}
use lib.Dec.{T}
use lib.ListN.{get_or}
use Rattle.std.specs.Prelude.{Option, Some, None}
use Rattle.lists.specs.Same.{same}
use Rattle.lists.proofs.Same.{same→eq, same_refl}
use Rattle.cards.specs.Heads.{editions, IsEdition, edition_line}
use Rattle.cards.specs.Says.{edition_in, edition_of}

-- ---- in any list of editions

-- e is one of them, and l its line.
abbrev Found : List ℕ → List ℕ → ℕ → Type 0
Found es l e = Memᴰ e es × (l ≡ edition_line e)

module _ (l : List ℕ) where
  found-split : (x : ℕ) (es : List ℕ) (e : ℕ) (t : Bool) → same l (edition_line x) ≡ t
      → (edition_in es l ≡ Some e → Found es l e) → cond t (Some x) (edition_in es l) ≡ Some e → Found (x ∷ es) l e
  found-split x es e true s ih q =
      let is : x ≡ e = cc in
      (Memᴰ.head (sym is), same→eq l (edition_line x) (subst T (sym s) tt) ∙ ap edition_line is)
  found-split x es e false s ih q = let h = ih q in (Memᴰ.tail h.0, h.1)

  found_in : (es : List ℕ) (e : ℕ) → edition_in es l ≡ Some e → Found es l e
  found_in [] e q = cc
  found_in (x ∷ es) e q = found-split x es e (same l (edition_line x)) refl (found_in es e) q

  missed-split : (x : ℕ) (es : List ℕ) (e : ℕ) (t : Bool) → same l (edition_line x) ≡ t
      → (edition_in es l ≡ None → Found es l e → ⊥) → cond t (Some x) (edition_in es l) ≡ None
      → Found (x ∷ es) l e → ⊥
  missed-split x es e true s ih q h = cc
  missed-split x es e false s ih q h =
      elim (Memᴰ.cases_cons h.0) [
        | inl first ↦
            let is : l ≡ edition_line x = h.1 ∙ ap edition_line first in
            false≢true (sym s ∙ ap (λ (k : List ℕ). same k (edition_line x)) is ∙ same_refl (edition_line x))
        | inr later ↦ ih q (later, h.1)
      ]

  missed-in : (es : List ℕ) (e : ℕ) → edition_in es l ≡ None → Found es l e → ⊥
  missed-in [] e q h = Memᴰ.not-nil h.0
  missed-in (x ∷ es) e q h = missed-split x es e (same l (edition_line x)) refl (missed-in es e) q h

-- ---- in the list of the editions

pub edition-is : (l : List ℕ) (e : ℕ) → edition_of l ≡ Some e → IsEdition e × (l ≡ edition_line e)
edition-is l e q = found_in l editions e q

pub edition-not : (l : List ℕ) → edition_of l ≡ None → (e : ℕ) → IsEdition e → l ≡ edition_line e → ⊥
edition-not l q e one is = missed-in l editions e q (one, is)

-- An edition's line is no other's.
line_of : (e x : ℕ) → edition_line e ≡ edition_line x → x ≡ e
line_of e x q = omega (arith, ap (λ (l : List ℕ). get_or l 8 0) q)

pub edition-of : {e : ℕ} → IsEdition e → edition_of (edition_line e) ≡ Some e
edition-of {e} one = by_answer (edition_of (edition_line e)) refl
  where
    by_answer : (o : Option ℕ) → edition_of (edition_line e) ≡ o → o ≡ Some e
    by_answer None q = absurd (edition-not (edition_line e) q e one refl)
    by_answer (Some x) q = ap Some (line_of e x (edition-is (edition_line e) x q).1)
