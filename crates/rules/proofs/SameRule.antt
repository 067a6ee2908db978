-- What it is to be the same rule (SPEC 8.3): it is settled for any two texts with their parameters, an equivalence on
-- those that are rules, and such rules have the same meaning on every interval and the same verdict at every tick of
-- every trace, each with its own parameters. Assumes nothing.
use mathlib.Core.Logic.{◌⊎◌, inl, inr}
use mathlib.Core.Path.{◌≡◌, refl, sym, ap, ◌∙◌, subst}
use mathlib.Core.List.{List}
use mathlib.Core.Option.{some}
use Prim.Native.Nat.{ℕ, ◌≤◌}
use Rattle.limits.specs.declared.Context.{Context}
use Rattle.limits.specs.declared.Refusal.{Refusal}
use Rattle.limits.specs.declared.Refusal.TheVariants.{ParameterTooHigh}
use Rattle.limits.specs.Refusal.{number}
use Rattle.traces.specs.Trace.{Trace}
use Rattle.traces.specs.Parameters.{run_with}
use Rattle.formulas.specs.Formula.{Formula}
use Rattle.formulas.specs.Names.{names_parameter}
use Rattle.formulas.specs.Raw.{raw}
use Rattle.formulas.specs.Tree.{Tree, formula_of}
use Rattle.formulas.specs.Meaning.{meaning, verdict}
use Rattle.formulas.proofs.Alike.{SameNamed, meaning-alike, verdict-alike}
use Rattle.formulas.proofs.Formulas.{formula-raw}
use Rattle.rules.specs.Reading.{Outcome, HasOutcome}
use Rattle.rules.specs.Reading.Outcome.{refused, rule}
use Rattle.rules.specs.Same.{Within, HasSide, SameValues, SameAnswer, SameRule}
use Rattle.rules.specs.Same.HasSide.{text-refused, above, within}
use Rattle.rules.specs.Same.SameAnswer.{first-refused, second-refused, one-rule, two-trees, two-values}
use Rattle.rules.specs.Same.{Same}
use Rattle.rules.proofs.Decided.{refused-rule}
use Rattle.rules.proofs.Theorems.{one-outcome, numbered}
use Rattle.rules.proofs.Sides.{side-rule}
use Rattle.rules.proofs.Sameness.{computed-answer}
use Rattle.std.specs.Prelude.{Bool, true, false, Ok, Err}

-- The other answers are not yes.
refused-as : {k : Refusal} {b : Bool} → Err k ≡ Ok b → ⊥
refused-as q = cc

no-yes : (r : Same) → r ≡ Ok false → r ≡ Ok true → ⊥
no-yes r p q = let both : false ≡ true = cc in cc

-- Both sides have one tree, and the parameters that it names the same values.
pub record OneRule (context : Context) (a ps b qs : List ℕ) : Type 0 where
  pub tree : Tree
  pub first : HasSide context a ps (rule tree)
  pub second : HasSide context b qs (rule tree)
  pub values : SameValues tree ps qs

module _ {context : Context} where
  -- A text that is a rule is not refused, and has one tree.
  pub not-refused : {a : List ℕ} {t : Tree} {k : Refusal} → HasOutcome context a (rule t)
      → HasOutcome context a (refused k)
      → ⊥
  not-refused {a} h k = refused-rule (one-outcome context a _ _ k h)

  pub same-tree : {a : List ℕ} {t u : Tree} → HasOutcome context a (rule t) → HasOutcome context a (rule u) → t ≡ u
  same-tree {a} {t} {u} h k = let e : rule t ≡ rule u = one-outcome context a _ _ h k in cc

  -- SPEC 8.3: where the answer is yes both sides are one rule.
  pub yes-rule : {a ps b qs : List ℕ} {r : Same} → SameAnswer context a ps b qs r → r ≡ Ok true
      → OneRule context a ps b qs
  yes-rule (first-refused h) q = absurd (refused-as q)
  yes-rule (second-refused h k) q = absurd (refused-as q)
  yes-rule (one-rule {t} h k v) q = record { tree = t; first = h; second = k; values = v }
  yes-rule (two-trees h k n) q = absurd (no-yes _ refl q)
  yes-rule (two-values j h k n v) q = absurd (no-yes _ refl q)

  -- Two texts with their parameters have one answer.
  pub one_answer : {a ps b qs : List ℕ} {r r' : Same} → SameAnswer context a ps b qs r → SameAnswer context a ps b qs r'
      → r ≡ r'
  one_answer {a} {ps} {b} {qs} h k = computed-answer context a ps b qs h ∙ sym (computed-answer context a ps b qs k)

-- ---- refusals

-- A refusal is 1 to 8, or 13, so that 0 can stand for none.
abbrev Numbered : Refusal → Type 0
Numbered k = ((1 ≤ number k) × (number k ≤ 8)) ⊎ (number k ≡ 13)

module _ (context : Context) where
  side-numbered : {a ps : List ℕ} {x : Outcome} {k : Refusal} → HasSide context a ps x → x ≡ refused k → Numbered k
  side-numbered {a} {k = k} (text-refused {r} h) q =
      let same : r ≡ k = cc in
      inl (numbered context a k (subst (λ (m : Refusal). HasOutcome context a (refused m)) same h))
  side-numbered {k = k} (above h high) q = let same : k ≡ ParameterTooHigh = cc in inr (ap number same)
  side-numbered (within h w) q = absurd (refused-rule (sym q))

  pub numbered-answer : {a ps b qs : List ℕ} {r : Same} {k : Refusal} → SameAnswer context a ps b qs r → r ≡ Err k
      → Numbered k
  numbered-answer {k = k} (first-refused {r} h) q = let same : r ≡ k = cc in side-numbered h (ap refused same)
  numbered-answer {k = k} (second-refused {r = r} h h') q = let same : r ≡ k = cc in side-numbered h' (ap refused same)
  numbered-answer (one-rule h h' v) q = absurd (refused-as (sym q))
  numbered-answer (two-trees h h' n) q = absurd (refused-as (sym q))
  numbered-answer (two-values j h h' n v) q = absurd (refused-as (sym q))

-- ---- an equivalence on texts that are rules, with parameters that are admitted

module _ (context : Context) where
  pub reflexive : (a ps : List ℕ) (t : Tree) → HasOutcome context a (rule t) → Within ps → SameRule context a ps a ps
  reflexive a ps t h w = one-rule (within h w) (within h w) (λ j n. refl)

  pub symmetric : (a ps b qs : List ℕ) → SameRule context a ps b qs → SameRule context b qs a ps
  symmetric a ps b qs h =
      let s = yes-rule h refl in
      one-rule s.second s.first (λ j n. sym (s.values j n))

  pub transitive : (a ps b qs c rs : List ℕ) → SameRule context a ps b qs → SameRule context b qs c rs
      → SameRule context a ps c rs
  transitive a ps b qs c rs h k =
      let s = yes-rule h refl in
      let u = yes-rule k refl in
      let trees : u.tree ≡ s.tree = same-tree (side-rule u.first).0 (side-rule s.second).0 in
      let third = subst (λ (t : Tree). HasSide context c rs (rule t)) trees u.second in
      one-rule s.first third (λ j n. s.values j n ∙ u.values j (rw trees n))

  -- ---- one meaning

  module _ (a ps b qs : List ℕ) (h : SameRule context a ps b qs) (t u : Tree) (e : HasOutcome context a (rule t))
      (k : HasOutcome context b (rule u)) where
    abbrev s : OneRule context a ps b qs
    s = yes-rule h refl

    -- The two texts have one tree, so one formula,
    pub same-formula : formula_of t ≡ formula_of u
    same-formula = ap formula_of (same-tree e (side-rule s.first).0 ∙ same-tree (side-rule s.second).0 k)

    -- whose named parameters have the same values on both sides,
    named-values : (f : Formula) → formula_of t ≡ some f → (trace : Trace)
        → SameNamed (run_with ps trace) (run_with qs trace) (names_parameter (raw f))
    named-values f p trace j n i =
        let trees : raw f ≡ s.tree = sym (formula-raw t f p) ∙ same-tree e (side-rule s.first).0 in
        s.values j (rw (← trees) n)

    -- and so one meaning on every interval and one verdict at every tick, each with its own parameters.
    pub same-meaning : (f g : Formula) → formula_of t ≡ some f → formula_of u ≡ some g → (trace : Trace) (i j : ℕ)
        → (meaning (run_with ps trace) f i j ≡ meaning (run_with qs trace) g i j)
        × (verdict (run_with ps trace) f j ≡ verdict (run_with qs trace) g j)
    same-meaning f g p q trace i j =
        let both = same-formula in
        let same : f ≡ g = cc in
        let named = named-values f p trace in
        let own : Trace = run_with ps trace in
        let other : Trace = run_with qs trace in (
          meaning-alike own other (λ k. refl) (λ k. refl) f named i j
              ∙ ap (λ (x : Formula). meaning other x i j) same,
          verdict-alike own other (λ k. refl) (λ k. refl) (λ k. refl) f named j
              ∙ ap (λ (x : Formula). verdict other x j) same,
        )
