-- What the limits, the grammar and the fragment decide of the words. Assumes nothing.
use mathlib.Core.Bool.{Bool, true, false, cond}
use mathlib.Core.Path.{◌≡◌, ap, ◌∙◌}
use mathlib.Core.List.{List}
use mathlib.Core.Option.{Option, some}
use Prim.Native.Nat.{ℕ}
use Rattle.words.specs.Split.Out.{made}
use Rattle.formulas.specs.Tree.{Tree, leads}
use Rattle.grammar.specs.Fragment.{beyond}
use Rattle.grammar.specs.Parse.{tree_of}
use Rattle.rules.specs.Limits.{beyond_limits}
use Rattle.rules.specs.Computed.{of_words, of_tree}
use Rattle.rules.specs.Reading.Outcome.{refused, rule}
use Rattle.limits.specs.declared.Refusal.{Refusal}
use Rattle.limits.specs.declared.Refusal.TheVariants.{BeyondFragment, NoLead, OverLimits}

-- A refusal is no rule.
pub refused-rule : {r : Refusal} {t : Tree} → refused r ≡ rule t → ⊥
refused-rule q = cc

module _ (ws : List ℕ) where
  -- Over the limits;
  pub limits-words : beyond_limits ws ≡ true → of_words (made ws) ≡ refused OverLimits
  limits-words o = ap (λ (b : Bool). cond b (refused OverLimits) (of_tree ws (tree_of ws))) o

  -- within them, what the parser's tree decides;
  pub tree-words : {x : Option Tree} → beyond_limits ws ≡ false → tree_of ws ≡ x → of_words (made ws) ≡ of_tree ws x
  tree-words o e = ap (λ (b : Bool). cond b (refused OverLimits) (of_tree ws (tree_of ws))) o ∙ ap (of_tree ws) e

  module _ {t : Tree} (o : beyond_limits ws ≡ false) (e : tree_of ws ≡ some t) where
    -- outside the fragment;
    pub beyond-words : beyond ws ≡ true → of_words (made ws) ≡ refused BeyondFragment
    beyond-words f = tree-words o e ∙ simp f

    -- and inside it, what the leads decide.
    pub lead-words : {l : Bool} → beyond ws ≡ false → leads t ≡ l
        → of_words (made ws) ≡ cond l (rule t) (refused NoLead)
    lead-words f g =
        tree-words o e ∙ simp (f, g)
