-- What reading a rule text gives (SPEC 8.1), its refusals in order, with the grammar as a relation. Definitions only.
-- The same as a computation is in Computed.antt.
use Rattle.std.specs.Prelude.{true, false, ◌≡◌, List, ℕ}
use Rattle.limits.specs.declared.Context.{Context}
use Rattle.limits.specs.declared.Refusal.{Refusal}
use Rattle.limits.specs.declared.Refusal.TheVariants.{BeyondFragment, NoLead, NoRule, OverLimits}
use Rattle.words.specs.Split.{Out, split_of}
use Rattle.words.specs.Split.Out.{made}
use Rattle.formulas.specs.Tree.{Tree, leads}
use Rattle.grammar.specs.Grammar.{Rule}
use Rattle.grammar.specs.Fragment.{beyond}
use Rattle.rules.specs.Limits.{beyond_limits}

-- SPEC 12.2 (demand 2): in a context the text is a rule with that tree. Each field rules out the refusals that it
-- names.
pub record Admitted (context : Context) (text : List ℕ) (t : Tree) : Type 0 where
  pub ws : List ℕ
  -- refusals 1 to 4: it is split into words
  pub words : split_of context text ≡ made ws
  -- refusal 5: within the limits
  pub limits : beyond_limits ws ≡ false
  -- refusal 6: of the grammar
  pub grammar : Rule ws t
  -- refusals 7 and 8: of the fragment (SPEC 3.10)
  pub fragment : beyond ws ≡ false
  pub lead : leads t ≡ true

-- A refusal, or the rule's tree.
pub data Outcome : Type 0 where
  refused : Refusal → Outcome
  rule : Tree → Outcome

-- The outcome that a text has in a context.
pub data HasOutcome (context : Context) (text : List ℕ) : Outcome → Type 0 where
  -- SPEC 7.1, or at a word SPEC 7.4, SPEC 7.2 or SPEC 7.3 (words, specs/Split.antt)
  no_words : {r : Refusal} → split_of context text ≡ Out.refused r → HasOutcome context text (refused r)
  -- SPEC 7.5: beyond a limit
  over-limits : {ws : List ℕ} → split_of context text ≡ made ws
      → beyond_limits ws ≡ true → HasOutcome context text (refused OverLimits)
  -- SPEC 7.6: no tree makes a rule of the words
  no-grammar : {ws : List ℕ} → split_of context text ≡ made ws
      → beyond_limits ws ≡ false → ((t : Tree) → Rule ws t → ⊥) → HasOutcome context text (refused NoRule)
  -- SPEC 7.7: a rule of the grammar with `chop` or `exists`
  outside : {ws : List ℕ} {t : Tree} → split_of context text ≡ made ws
      → beyond_limits ws ≡ false → Rule ws t → beyond ws ≡ true → HasOutcome context text (refused BeyondFragment)
  -- SPEC 7.8: a `then` has no lead on its left
  no_lead : {ws : List ℕ} {t : Tree} → split_of context text ≡ made ws
      → beyond_limits ws ≡ false → Rule ws t → beyond ws ≡ false → leads t ≡ false
      → HasOutcome context text (refused NoLead)
  -- else it is a rule
  is-rule : {t : Tree} → Admitted context text t → HasOutcome context text (rule t)
