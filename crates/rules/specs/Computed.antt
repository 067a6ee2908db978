-- Reading a rule and comparing two as computations, by the parser that `grammar` defines. That they agree with the
-- relations of Reading.antt and Same.antt is shown in proofs/Theorems.antt and proofs/Sameness.antt. Definitions only.
use Rattle.std.specs.Prelude.{Bool, true, not, ◌&&◌, ◌||◌, cond, List, [], ◌∷◌, ℕ, eqb}
use Rattle.std.specs.Prelude.{Ok, Err}
use Rattle.std.proofs.Math.Option.{Option, none, some}
use Rattle.limits.specs.Limits.{literal_count}
use Rattle.limits.specs.declared.Context.{Context}
use Rattle.limits.specs.declared.Refusal.TheVariants.{OverLimits, NoRule, BeyondFragment, NoLead, ParameterTooHigh}
use Rattle.lists.specs.Number.{number_at}
use Rattle.lists.specs.Same.{same}
use Rattle.traces.specs.Parameters.{parameters_fit}
use Rattle.words.specs.Split.{Out, split_of}
use Rattle.words.specs.Split.Out.{made}
use Rattle.formulas.specs.Tree.{Tree, leads}
use Rattle.formulas.specs.Arena.{record_names, flat}
use Rattle.grammar.specs.Fragment.{beyond}
use Rattle.grammar.specs.Parse.{tree_of}
use Rattle.rules.specs.Limits.{beyond_limits}
use Rattle.rules.specs.Same.{Same}
use Rattle.rules.specs.Reading.{Outcome}
use Rattle.rules.specs.Reading.Outcome.{refused, rule}

abbrev pub of_tree : List ℕ → Option Tree → Outcome
of_tree ws none = refused NoRule
of_tree ws (some t) = cond (beyond ws) (refused BeyondFragment) (cond (leads t) (rule t) (refused NoLead))

abbrev pub of_words : Out → Outcome
of_words (Out.refused r) = refused r
of_words (made ws) = cond (beyond_limits ws) (refused OverLimits) (of_tree ws (tree_of ws))

-- The outcome of a text.
unfoldable pub rule_of : Context → List ℕ → Outcome
rule_of context text = of_words (split_of context text)

-- The outcome of a text with its parameters.
abbrev pub side_of : List ℕ → Outcome → Outcome
side_of ps (refused r) = refused r
side_of ps (rule t) = cond (parameters_fit literal_count ps) (rule t) (refused ParameterTooHigh)

-- One record, of that kind, with b and c as its last numbers: the parameter that it names, if it names one, has the
-- same value in ps and in qs;
abbrev pub value_agrees : List ℕ → List ℕ → ℕ → ℕ → ℕ → Bool
value_agrees ps qs k b c = not (record_names k b) || eqb (number_at ps c) (number_at qs c)

-- and so of each record.
unfoldable pub values_agree : List ℕ → List ℕ → List ℕ → Bool
values_agree ps qs [] = true
values_agree ps qs (k ∷ []) = true
values_agree ps qs (k ∷ a ∷ []) = true
values_agree ps qs (k ∷ a ∷ b ∷ []) = true
values_agree ps qs (k ∷ a ∷ b ∷ c ∷ r) = value_agrees ps qs k b c && values_agree ps qs r

-- The answer for two sides with these parameters and outcomes: trees are compared by their records, and the parameters
-- that these name by their values.
abbrev pub same_of : List ℕ → List ℕ → Outcome → Outcome → Same
same_of ps qs (refused r) y = Err r
same_of ps qs (rule t) (refused r) = Err r
same_of ps qs (rule t) (rule u) = Ok (same (flat t) (flat u) && values_agree ps qs (flat t))

-- The answer for two texts with their parameters.
abbrev pub comparison : Context → List ℕ → List ℕ → List ℕ → List ℕ → Same
comparison context first ps second qs =
    same_of ps qs (side_of ps (rule_of context first)) (side_of qs (rule_of context second))
