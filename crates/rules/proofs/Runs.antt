-- The trial runs P1 to P13 and the further rows: of every row the text is read as its formula's tree, by computation.
-- Assumes nothing.
use mathlib.Core.Path.{◌≡◌, refl}
use mathlib.Core.List.{List, map}
use Prim.Native.Nat.{ℕ, ◌<◌}
use lib.ListN.{length, get_or}
use Rattle.limits.specs.Context.{standard_context}
use Rattle.lists.specs.Text.{bytes}
use Rattle.lists.specs.Decimal.{is_digit, digits_after, numeral}
use Rattle.formulas.specs.Tree.{nodes, rule_memories}
use Rattle.formulas.specs.Raw.{raw}
use Rattle.formulas.specs.Trials.{Trial, trials, further_trials, blank, meant}
use Rattle.formulas.proofs.Formulas.{raw-formula}
use Rattle.formulas.proofs.Trials.{AllRemember, trials-counted, trials-remember, trials-meant}
use Rattle.formulas.proofs.Trials.{further-counted, further-remember, further-meant, row}
use Rattle.words.specs.Split.{class_of, run, keyword_among, keyword_of, number_of, run_of, word_of, words, split_of}
use Rattle.words.specs.Word.{is_op, is_signal, is_num, is_velocity, is_bit, is_test, is_count}
use Rattle.grammar.specs.Fragment.{has_word}
use Rattle.grammar.specs.Parse.{parse, read, tree_of}
use Rattle.rules.specs.Limits.{deep, counted, operator_count}
use Rattle.rules.specs.Computed.{rule_of, same_of}
use Rattle.rules.specs.Reading.{Outcome}
use Rattle.rules.specs.Reading.Outcome.{rule}
use Rattle.rules.specs.Runs.{RowHolds}
use Rattle.std.specs.Prelude.{false, Ok}

-- What reading gives for a row's text.
abbrev outcome : Trial → Outcome
outcome r = rule_of standard_context (bytes r.text)

-- The texts of these rows are read as rules with the rows' formulas.
abbrev AllRead : List Trial → Type 0
AllRead rs = map outcome rs ≡ map (λ (r : Trial). rule (raw r.formula)) rs

pub trials-read : AllRead trials
unfolding rule_of split_of words word_of run_of run class_of keyword_of keyword_among number_of is_digit digits_after
    numeral
    tree_of read parse is_op is_signal is_num is_velocity is_bit is_test is_count has_word deep counted operator_count
trials-read = refl

further-read : AllRead further_trials
unfolding rule_of split_of words word_of run_of run class_of keyword_of keyword_among number_of is_digit digits_after
    numeral
    tree_of read parse is_op is_signal is_num is_velocity is_bit is_test is_count has_word deep counted operator_count
further-read = refl

-- So each of them holds.
holds : (rs : List Trial) → AllRead rs
    → map (λ (r : Trial). nodes (raw r.formula)) rs ≡ map (λ (r : Trial). r.nodes) rs
    → AllRemember rs → map meant rs ≡ map (λ (r : Trial). r.verdicts) rs → (i : ℕ) → i < length rs
    → RowHolds (get_or rs i blank)
holds rs are-read are-counted remember are-meant i l =
    let r : Trial = get_or rs i blank in
    record {
      tree = raw r.formula;
      is_read = row outcome (λ x. rule (raw x.formula)) rs blank are-read i l;
      counts = row (λ x. nodes (raw x.formula)) (λ x. x.nodes) rs blank are-counted i l;
      remembers = row (λ x. rule_memories (raw x.formula)) (λ x. x.memories) rs blank remember i l;
      is-formula = raw-formula r.formula;
      gives = row meant (λ x. x.verdicts) rs blank are-meant i l;
    }

-- P1 to P13, and the further rows.
pub runs : (i : ℕ) → i < 13 → RowHolds (get_or trials i blank)
runs = holds trials trials-read trials-counted trials-remember trials-meant

pub further-runs : (i : ℕ) → i < 45 → RowHolds (get_or further_trials i blank)
further-runs = holds further_trials further-read further-counted further-remember further-meant

-- SPEC 4.11: with n = 0 and with n = 1 a `lag` is not the same rule.
pub lag-differs : (ps qs : List ℕ)
    → same_of ps qs (rule_of standard_context (bytes "lag[s0,0,s1]")) (rule_of standard_context (bytes "lag[s0,1,s1]"))
    ≡ Ok false
unfolding rule_of split_of words word_of run_of run class_of keyword_of keyword_among number_of is_digit digits_after
    numeral
    tree_of read parse is_op is_signal is_num is_velocity is_bit is_test is_count has_word deep counted operator_count
lag-differs ps qs = refl
