-- Reading a rule as SPEC 8.1 states it (`HasOutcome`, specs/Reading.antt) and as it is computed (`rule_of`,
-- specs/Computed.antt) are the same: every text has an outcome, it has one, and which texts are rules is as SPEC 12.2
-- says. Assumes nothing.
use mathlib.Core.Bool.{Bool, true, false, cond}
use mathlib.Core.Path.{◌≡◌, refl, sym, ap, ◌∙◌, subst}
use mathlib.Core.List.{List}
use mathlib.Core.Logic.{◌↔◌}
use mathlib.Core.Option.{Option, none, some}
use Prim.Native.Nat.{ℕ, ◌≤◌}
use native.Mathlib.Omega.{arith}
use Rattle.limits.specs.Limits.{literal_count}
use Rattle.limits.specs.declared.Context.{Context}
use Rattle.limits.specs.declared.Refusal.{Refusal}
use Rattle.limits.specs.declared.Refusal.TheVariants.{OverLimits, NoRule, BeyondFragment, NoLead}
use Rattle.limits.specs.Refusal.{number}
use Rattle.words.specs.Split.{Out, split_of}
use Rattle.words.specs.Split.Out.{made}
use Rattle.words.specs.Contract.{Ranged}
use Rattle.words.proofs.Bounds.{refusal-numbered, word_bound, velocity-bound}
use Rattle.formulas.specs.Formula.{Formula}
use Rattle.formulas.specs.Tree.{Tree, leads, formula_of}
use Rattle.formulas.specs.Bounds.{bounded}
use Rattle.grammar.specs.Grammar.{Rule}
use Rattle.grammar.specs.Fragment.{beyond}
use Rattle.grammar.specs.Parse.{tree_of}
use Rattle.grammar.proofs.Theorems.{tree-rule, rule-tree, no-tree, rule-formula, rule-numbers}
use Rattle.rules.specs.Limits.{beyond_limits}
use Rattle.rules.specs.Reading.{Admitted, Outcome, HasOutcome}
use Rattle.rules.specs.Computed.{rule_of, of_words, of_tree}
use Rattle.rules.specs.Reading.Outcome.{refused, rule}
use Rattle.rules.specs.Reading.HasOutcome.{no_words, over-limits, no-grammar, outside, no_lead, is-rule}
use Rattle.rules.specs.Contract.{Told, answer_of}
use Rattle.rules.specs.Contract.{Read}
use Rattle.rules.proofs.Decided.{refused-rule, limits-words, tree-words, beyond-words, lead-words}
use Rattle.limits.specs.declared.Refusal.TheVariants.{BeyondFragment, NoLead, OverLimits}

-- ---- every text has the outcome that is computed

module _ {context : Context} {text : List ℕ} where
  of-lead : {ws : List ℕ} {t : Tree} → split_of context text ≡ made ws → beyond_limits ws ≡ false → Rule ws t
      → beyond ws ≡ false → (b : Bool) → leads t ≡ b → HasOutcome context text (cond b (rule t) (refused NoLead))
  of-lead {ws} e o r f true l =
      is-rule (record { ws = ws; words = e; limits = o; grammar = r; fragment = f; lead = l })
  of-lead e o r f false l = no_lead e o r f l

  of-fragment : {ws : List ℕ} {t : Tree} → split_of context text ≡ made ws → beyond_limits ws ≡ false → Rule ws t
      → (b : Bool) → beyond ws ≡ b
      → HasOutcome context text (cond b (refused BeyondFragment) (cond (leads t) (rule t) (refused NoLead)))
  of-fragment e o r true f = outside e o r f
  of-fragment {t = t} e o r false f = of-lead e o r f (leads t) refl

  of_tree_lem : {ws : List ℕ} → split_of context text ≡ made ws → beyond_limits ws ≡ false → (x : Option Tree)
      → tree_of ws ≡ x
      → HasOutcome context text (of_tree ws x)
  of_tree_lem {ws} e o none g = no-grammar e o (no-tree ws g)
  of_tree_lem {ws} e o (some t) g = of-fragment e o (tree-rule ws t g) (beyond ws) refl

  of-limits : {ws : List ℕ} → split_of context text ≡ made ws → (b : Bool) → beyond_limits ws ≡ b
      → HasOutcome context text (cond b (refused OverLimits) (of_tree ws (tree_of ws)))
  of-limits e true o = over-limits e o
  of-limits {ws} e false o = of_tree_lem e o (tree_of ws) refl

  of_words_lem : (x : Out) → split_of context text ≡ x → HasOutcome context text (of_words x)
  of_words_lem (Out.refused n) e = no_words e
  of_words_lem (made ws) e = of-limits e (beyond_limits ws) refl

pub has-outcome : (context : Context) (text : List ℕ) → HasOutcome context text (rule_of context text)
unfolding rule_of
has-outcome context text = of_words_lem (split_of context text) refl

-- ---- and no other

-- Words that derive no tree are read as none.
none_of : (ws : List ℕ) → ((t : Tree) → Rule ws t → ⊥) → tree_of ws ≡ none
none_of ws h = go (tree_of ws) refl
  where
    go : (x : Option Tree) → tree_of ws ≡ x → tree_of ws ≡ none
    go none g = g
    go (some t) g = absurd (h t (tree-rule ws t g))

module _ (context : Context) where
  module _ (text : List ℕ) where
    pub computed : {x : Outcome} → HasOutcome context text x → rule_of context text ≡ x
    unfolding rule_of
    computed (no_words e) = ap of_words e
    computed (over-limits {ws} e o) = ap of_words e ∙ limits-words ws o
    computed (no-grammar {ws} e o h) = ap of_words e ∙ tree-words ws o (none_of ws h)
    computed (outside {ws} {t} e o r f) = ap of_words e ∙ beyond-words ws o (rule-tree ws t r) f
    computed (no_lead {ws} {t} e o r f l) = ap of_words e ∙ lead-words ws o (rule-tree ws t r) f l
    computed (is-rule {t} a) =
        let ws = a.ws in
        ap of_words a.words ∙ lead-words ws a.limits (rule-tree ws t a.grammar) a.fragment a.lead

  -- A text has one outcome.
  pub one-outcome : (text : List ℕ) (x y : Outcome) → HasOutcome context text x → HasOutcome context text y → x ≡ y
  one-outcome text x y p q = sym (computed text p) ∙ computed text q

  -- An answer that is computed is the one that SPEC 8.1 tells.
  pub told : (text : List ℕ) (r : Read) → r ≡ answer_of (rule_of context text) → Told context text r
  told text r e = record { outcome = rule_of context text; has = has-outcome context text; answer = e }

  -- A refusal of reading is 1 to 8.
  numbered-as : (text : List ℕ) (x : Outcome) (k : Refusal) → HasOutcome context text x → x ≡ refused k
      → (1 ≤ number k) × (number k ≤ 8)
  numbered-as text x k (no_words {r} e) q =
      let same : r ≡ k = cc in
      let low = refusal-numbered context text r e in
      rw (← same) (omega (arith, low.0), omega (arith, low.1))
  numbered-as text x k (over-limits e o) q = let same : OverLimits ≡ k = cc in rw (← same) (omega arith, omega arith)
  numbered-as text x k (no-grammar e o h) q = let same : NoRule ≡ k = cc in rw (← same) (omega arith, omega arith)
  numbered-as text x k (outside e o r f) q =
      let same : BeyondFragment ≡ k = cc in
      rw (← same) (omega arith, omega arith)
  numbered-as text x k (no_lead e o r f l) q = let same : NoLead ≡ k = cc in rw (← same) (omega arith, omega arith)
  numbered-as text x k (is-rule a) q = absurd (refused-rule (sym q))

  pub numbered : (text : List ℕ) (k : Refusal) → HasOutcome context text (refused k)
      → (1 ≤ number k) × (number k ≤ 8)
  numbered text k h = numbered-as text (refused k) k h refl

  -- ---- SPEC 12.2, demand 2

  -- The texts that are read as rules are those that are admitted.
  rule-parts : (text : List ℕ) (x : Outcome) (t : Tree) → HasOutcome context text x → x ≡ rule t
      → Admitted context text t
  rule-parts text x t (no_words e) q = absurd (refused-rule q)
  rule-parts text x t (over-limits e o) q = absurd (refused-rule q)
  rule-parts text x t (no-grammar e o h) q = absurd (refused-rule q)
  rule-parts text x t (outside e o r f) q = absurd (refused-rule q)
  rule-parts text x t (no_lead e o r f l) q = absurd (refused-rule q)
  rule-parts text x t (is-rule {t = u} a) q = let same : u ≡ t = cc in subst (Admitted context text) same a

  pub accepted : (text : List ℕ) (t : Tree) → (rule_of context text ≡ rule t) ↔ Admitted context text t
  accepted text t = (
    λ e. rule-parts text (rule_of context text) t (has-outcome context text) e,
    λ a. computed text (is-rule a),
  )

  -- Such a text has one tree.
  pub one-tree : (text : List ℕ) (t u : Tree) → Admitted context text t → Admitted context text u → t ≡ u
  one-tree text t u a b = let e = (accepted text t).1 a in let f = (accepted text u).1 b in cc

  -- And that tree has a formula, so it has a meaning.
  pub has-formula : (text : List ℕ) (t : Tree) → rule_of context text ≡ rule t → (f : Formula) × (formula_of t ≡ some f)
  has-formula text t e = let a = (accepted text t).0 e in rule-formula a.ws t a.grammar a.fragment

  -- Its numbers are those that words of the context can name, its velocity literals below the context's velocities.
  pub has-bounds : Ranged context → (text : List ℕ) (t : Tree) → rule_of context text ≡ rule t
      → bounded literal_count context.velocities t ≡ true
  has-bounds r text t e =
      let a = (accepted text t).0 e in
      rule-numbers a.ws t context.velocities a.grammar (word_bound context text a.ws a.words r)
      (velocity-bound context text a.ws a.words r)
