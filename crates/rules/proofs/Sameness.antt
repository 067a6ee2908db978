-- The answer for two texts with their parameters as it is computed, from their trees' records, is that of SPEC 8.3.
-- Assumes nothing.
use mathlib.Core.Bool.{Bool, true, false, true≢false, ◌&&◌}
use mathlib.Core.Path.{◌≡◌, refl, sym, ap, ap₂, ◌∙◌, subst}
use mathlib.Core.List.{List, [], ◌∷◌}
use Prim.Native.Nat.{ℕ}
use lib.Dec.{T, eqb}
use Rattle.std.specs.Cmp.Lexicographic.{pointwise}
use lib.ListN.{take}
use Rattle.limits.specs.declared.Context.{Context}
use Rattle.lists.specs.Same.{same}
use Rattle.lists.proofs.Same.{same→eq, same_refl}
use Rattle.formulas.specs.Tree.{Tree}
use Rattle.formulas.specs.Arena.{flat}
use Rattle.formulas.proofs.Arena.{flat-one}
use Rattle.rules.specs.Reading.{Outcome}
use Rattle.rules.specs.Reading.Outcome.{refused, rule}
use Rattle.rules.specs.Computed.{rule_of, side_of, values_agree, same_of, comparison}
use Rattle.rules.specs.Same.{HasSide, SameAnswer}
use Rattle.rules.specs.Same.SameAnswer.{first-refused, second-refused, one-rule, two-trees, two-values}
use Rattle.rules.specs.Same.{Same}
use Rattle.rules.proofs.Laid.{Front}
use Rattle.rules.proofs.Sides.{has-side, side-computed}
use Rattle.rules.proofs.Values.{agree_same, disagree-two, same-agree, two-disagree}
use Rattle.std.specs.Prelude.{Ok, Err}
use Rattle.limits.specs.declared.Refusal.{Refusal}

-- Trees with equal records are one, with different records two.
one_of : (t u : Tree) → same (flat t) (flat u) ≡ true → t ≡ u
one_of t u e = flat-one t u (same→eq _ _ (subst T (sym e) tt))

two-of : (t u : Tree) → same (flat t) (flat u) ≡ false → t ≡ u → ⊥
two-of t u e equal =
    true≢false (sym (same_refl (flat t)) ∙ ap (λ (v : Tree). same (flat t) (flat v)) equal ∙ e)

differ : (t u : Tree) → (t ≡ u → ⊥) → same (flat t) (flat u) ≡ false
differ t u n = go (same (flat t) (flat u)) refl
  where
    go : (x : Bool) → same (flat t) (flat u) ≡ x → x ≡ false
    go true e = absurd (n (one_of t u e))
    go false e = refl

-- What `==` answers on slices is that test.
equal_same : (xs ys : List ℕ) → pointwise eqb xs ys ≡ same xs ys
equal_same [] [] = refl
equal_same [] (y ∷ ys) = refl
equal_same (x ∷ xs) [] = refl
equal_same (x ∷ xs) (y ∷ ys) = ap (λ (b : Bool). eqb x y && b) (equal_same xs ys)

-- The answer by the two tests.
abbrev answer : Bool → Bool → Same
answer x y = Ok (x && y)

module _ (context : Context) (a ps b qs : List ℕ) where
  -- The first outcome, and the second.
  abbrev first : Outcome
  first = side_of ps (rule_of context a)

  abbrev second : Outcome
  second = side_of qs (rule_of context b)

  -- ---- the computed answer is one that SPEC 8.3 has

  of_values : (t : Tree) → HasSide context a ps (rule t) → HasSide context b qs (rule t) → (y : Bool)
      → values_agree ps qs (flat t) ≡ y → SameAnswer context a ps b qs (Ok y)
  of_values t h k true e = one-rule h k (agree_same ps qs t e)
  of_values t h k false e = let w = disagree-two ps qs t e in two-values w.0 h k w.1 w.2

  of-trees : (t u : Tree) → HasSide context a ps (rule t) → HasSide context b qs (rule u) → (x : Bool)
      → same (flat t) (flat u) ≡ x → SameAnswer context a ps b qs (answer x (values_agree ps qs (flat t)))
  of-trees t u h k true e =
      let both = subst (λ (v : Tree). HasSide context b qs (rule v)) (sym (one_of t u e)) k in
      of_values t h both (values_agree ps qs (flat t)) refl
  of-trees t u h k false e = two-trees h k (two-of t u e)

  of-sides : (x y : Outcome) → HasSide context a ps x → HasSide context b qs y
      → SameAnswer context a ps b qs (same_of ps qs x y)
  of-sides (refused n) y h k = first-refused h
  of-sides (rule t) (refused n) h k = second-refused h k
  of-sides (rule t) (rule u) h k = of-trees t u h k (same (flat t) (flat u)) refl

  pub same_answer : (r : Same) → r ≡ comparison context a ps b qs → SameAnswer context a ps b qs r
  same_answer r e =
      subst (SameAnswer context a ps b qs) (sym e)
      (of-sides first second (has-side ps context a) (has-side qs context b))

  -- ---- and the answer that SPEC 8.3 has is the computed one

  of-both : {x y : Outcome} → HasSide context a ps x → HasSide context b qs y
      → same_of ps qs x y ≡ comparison context a ps b qs
  of-both h k = sym (ap₂ (same_of ps qs) (side-computed ps context a h) (side-computed qs context b k))

  pub computed-answer : {r : Same} → SameAnswer context a ps b qs r → r ≡ comparison context a ps b qs
  computed-answer (first-refused h) =
      sym (ap (λ (o : Outcome). same_of ps qs o second) (side-computed ps context a h))
  computed-answer (second-refused h k) = of-both h k
  computed-answer (one-rule {t} h k v) =
      sym (ap₂ answer (same_refl (flat t)) (same-agree ps qs t v)) ∙ of-both h k
  computed-answer (two-trees {t} {u} h k n) =
      sym (ap (λ (x : Bool). answer x (values_agree ps qs (flat t))) (differ t u n)) ∙ of-both h k
  computed-answer (two-values {t} j h k n v) =
      sym (ap₂ answer (same_refl (flat t)) (two-disagree ps qs t j n v)) ∙ of-both h k

-- What the two tests, of the records in two arenas and of the values, tell of the outcomes.
pub compared : (ps qs : List ℕ) {x y : Outcome} {n m : ℕ} {a b : List ℕ} → Front x n a → Front y m b
    → {r : Bool} (z w : Bool) → r ≡ pointwise eqb (take n a) (take m b) → r ≡ z → values_agree ps qs (take n a) ≡ w
    → answer z w ≡ same_of ps qs x y
compared ps qs {n = n} {m} {a} {b} h h' z w e q e' =
    ap₂ answer (sym q ∙ e ∙ equal_same (take n a) (take m b) ∙ ap₂ same h.front h'.front)
    (sym e' ∙ ap (values_agree ps qs) h.front)
    ∙ sym (ap₂ (same_of ps qs) h.is h'.is)

-- A refused side.
module _ (context : Context) (a ps b qs : List ℕ) {k : Refusal} where
  pub first_told : side_of ps (rule_of context a) ≡ refused k → SameAnswer context a ps b qs (Err k)
  first_told x =
      same_answer context a ps b qs (Err k)
      (sym (ap (λ (o : Outcome). same_of ps qs o (side_of qs (rule_of context b))) x))

  pub second_told : {t : Tree} → side_of ps (rule_of context a) ≡ rule t → side_of qs (rule_of context b) ≡ refused k
      → SameAnswer context a ps b qs (Err k)
  second_told x y = same_answer context a ps b qs (Err k) (sym (ap₂ (same_of ps qs) x y))
