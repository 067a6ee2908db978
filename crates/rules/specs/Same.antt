-- Whether two texts, each with its parameters, are the same rule (SPEC 8.3). Definitions only.
use Rattle.std.specs.Prelude.{Bool, true, false, List, ◌≡◌, ℕ, ◌≤◌, ◌<◌, Result, Ok, Err}
use Rattle.limits.specs.Limits.{last_literal, parameter_count}
use Rattle.limits.specs.declared.Context.{Context}
use Rattle.limits.specs.declared.Refusal.{Refusal}
use Rattle.limits.specs.declared.Refusal.TheVariants.{ParameterTooHigh}
use Rattle.limits.specs.Refusal.{number}
use Rattle.limits.specs.Reply as Reply
use Rattle.limits.specs.Reply.{Reply, gives}
use Rattle.lists.specs.Number.{number_at}
use Rattle.formulas.specs.Names.{names_parameter}
use Rattle.formulas.specs.Tree.{Tree}
use Rattle.rules.specs.Reading.{Outcome, HasOutcome}
use Rattle.rules.specs.Reading.Outcome.{refused, rule}

-- What comparing two rules answers: whether they are the same, or a refusal.
abbrev pub Same : Type 0
Same = Result Bool Refusal

-- SPEC 7.13: one of the eight parameters, named or not, is above 999,999, or none of them is.
abbrev pub Above : List ℕ → Type 0
Above ps = (j : ℕ) × (j < parameter_count) × (last_literal < number_at ps j)

abbrev pub Within : List ℕ → Type 0
Within ps = (j : ℕ) → j < parameter_count → number_at ps j ≤ last_literal

-- SPEC 8.3: what one side, a text with its parameters, is: its text's refusal, or else 13, or else a rule.
pub data HasSide (context : Context) (text ps : List ℕ) : Outcome → Type 0 where
  text-refused : {r : Refusal} → HasOutcome context text (refused r) → HasSide context text ps (refused r)
  above : {t : Tree} → HasOutcome context text (rule t) → Above ps → HasSide context text ps (refused ParameterTooHigh)
  within : {t : Tree} → HasOutcome context text (rule t) → Within ps → HasSide context text ps (rule t)

-- Each parameter that the tree names (SPEC 3.11) has the same value on both sides.
abbrev pub SameValues : Tree → List ℕ → List ℕ → Type 0
SameValues t ps qs = (j : ℕ) → names_parameter t j ≡ true → number_at ps j ≡ number_at qs j

-- SPEC 8.3: the answer for the first text with the parameters ps and the second with the parameters qs.
pub data SameAnswer (context : Context) (first ps second qs : List ℕ) : Same → Type 0 where
  -- the first side's refusal, or else the second's
  first-refused : {r : Refusal} → HasSide context first ps (refused r) → SameAnswer context first ps second qs (Err r)
  second-refused : {t : Tree} {r : Refusal} → HasSide context first ps (rule t) → HasSide context second qs (refused r)
      → SameAnswer context first ps second qs (Err r)
  -- yes: both have one tree, and the parameters that it names have the same values
  one-rule : {t : Tree} → HasSide context first ps (rule t) → HasSide context second qs (rule t) → SameValues t ps qs
      → SameAnswer context first ps second qs (Ok true)
  -- no: they have two trees, or one that names a parameter with two values
  two-trees : {t u : Tree} → HasSide context first ps (rule t) → HasSide context second qs (rule u) → (t ≡ u → ⊥)
      → SameAnswer context first ps second qs (Ok false)
  two-values : {t : Tree} (j : ℕ) → HasSide context first ps (rule t) → HasSide context second qs (rule t)
      → names_parameter t j ≡ true → (number_at ps j ≡ number_at qs j → ⊥)
      → SameAnswer context first ps second qs (Ok false)

-- They are the same rule.
abbrev pub SameRule : Context → List ℕ → List ℕ → List ℕ → List ℕ → Type 0
SameRule context first ps second qs = SameAnswer context first ps second qs (Ok true)

-- 1 for yes and 0 for no.
abbrev pub same_reply : Same → Reply
same_reply (Ok true) = gives 1
same_reply (Ok false) = gives 0
same_reply (Err r) = Reply.refused (number r)
