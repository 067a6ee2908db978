-- A rule of 240 words has as many equations as a rule can have: `rule_equations`. It is read and its observer is
-- counted by computation. Assumes nothing.
use mathlib.Core.Bool.{true}
use mathlib.Core.List.{List, [], ◌++◌}
use mathlib.Core.Path.{◌≡◌, refl, sym, ap, ◌∙◌}
use Prim.Native.Nat.{ℕ, zero, suc, ◌≤◌}
use lib.ListN.{length}
use Rattle.limits.specs.Limits.{table_room, rule_equations}
use Rattle.limits.specs.Context.{standard_context}
use Rattle.lists.specs.Text.{bytes}
use Rattle.lists.specs.Decimal.{is_digit, digits_after, numeral}
use Rattle.traces.specs.declared.Op.TheVariants.{Below as lt}
use Rattle.formulas.specs.Formula.{Formula}
use Rattle.formulas.specs.Formula.Num.{literal}
use Rattle.formulas.specs.Formula.Prop.{constant}
use Rattle.formulas.specs.Formula.Formula.{len, lag, and, then}
use Rattle.formulas.specs.Raw.{raw}
use Rattle.words.specs.Split.{class_of, run, keyword_among, keyword_of, number_of, run_of, word_of, words, split_of}
use Rattle.words.specs.Word.{is_op, is_signal, is_num, is_bit, is_test, is_count}
use Rattle.grammar.specs.Fragment.{has_word}
use Rattle.grammar.specs.Parse.{parse, read, tree_of}
use Rattle.scheme.specs.Emit.{observer}
use Rattle.rules.specs.Limits.{deep, counted, operator_count}
use Rattle.rules.specs.Reading.Outcome.{rule}
use Rattle.rules.specs.Computed.{rule_of}
use Rattle.observers.specs.Compile.{AfterCompile, compiled}
use Rattle.observers.proofs.Demand.{room-compiled}
use Rattle.std.specs.Prelude.{Ok}

-- n times the same text.
abbrev times : ℕ → List ℕ → List ℕ
times zero l = []
times (suc n) l = l ++ times n l

-- 21 atoms `lag[1,1,1]` and 13 atoms `len<1`, joined by 32 `then` and one `&`: 240 words.
abbrev pub widest_text : List ℕ
widest_text = times 21 (bytes "lag[1,1,1] then ") ++ (times 11 (bytes "len<1 then ") ++ bytes "len<1&len<1")

-- Its formula.
abbrev short : Formula
short = len lt (literal 1)

abbrev long : Formula
long = lag (constant true) (literal 1) (constant true)

abbrev thens : ℕ → Formula → Formula → Formula
thens zero l f = f
thens (suc n) l f = then l (thens n l f)

abbrev formula : Formula
formula = thens 21 long (thens 11 short (and short short))

is_read : rule_of standard_context widest_text ≡ rule (raw formula)
unfolding rule_of split_of words word_of run_of run class_of keyword_of keyword_among number_of is_digit digits_after
    numeral
    tree_of read parse is_op is_signal is_num is_bit is_test is_count has_word deep counted operator_count
is_read = refl

-- Compiled into a table that is long enough, it has as many equations.
pub widest-reached : (table : List ℕ) → table_room ≤ length table
    → (compiled standard_context widest_text table).answer ≡ Ok rule_equations
widest-reached table room =
    let counted : length (observer formula) ≡ rule_equations = refl in
    let stores =
    room-compiled standard_context widest_text table (raw formula) is_read formula refl room (observer formula) refl in
    sym (ap (λ (x : AfterCompile). x.answer) stores) ∙ ap Ok counted
