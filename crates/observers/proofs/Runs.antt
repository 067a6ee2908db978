-- The trial runs P1 to P13 on compiled tables: of every row (formulas, specs/Trials.antt) the text is read, and the
-- answers of its observer's table, from a fresh state over any old cells of 7, are the row's verdicts. That the texts
-- are read is `rules`' theorem; the rest is computed. Assumes nothing.
use mathlib.Core.List.{List, [], map}
use mathlib.Core.Path.{◌≡◌, refl, ◌∙◌}
use Prim.Native.Nat.{ℕ}
use lib.ListN.{length, replicate}
use Rattle.limits.specs.Limits.{standard_cap, velocity_count}
use Rattle.limits.specs.Context.{standard_context}
use Rattle.lists.specs.Text.{bytes}
use Rattle.traces.specs.declared.Tick.{Tick}
use Rattle.traces.specs.Parameters.{parameter_fits}
use Rattle.formulas.specs.Raw.{raw}
use Rattle.formulas.specs.Tree.{formula_of}
use Rattle.formulas.specs.Trials.{Trial, trials, ticks_in}
use Rattle.formulas.proofs.Trials.{through}
use Rattle.tables.specs.Table.{kind_of, shape_of, same_sort, is_flow, operand_fits, shape_fits, length_fits}
use Rattle.tables.specs.Table.{equations_fit, closes, all, checked, is_memory}
use Rattle.flows.specs.Flow.{increased, value_of, flows, answer_of, memories_set, initial, in_range}
use Rattle.flows.specs.Step.{freshened, fresh_checked, stepped, step_checked, after_tick, cell_fits}
use Rattle.flows.specs.Run.{Call, steps, from_fresh, answered}
use Rattle.flows.specs.Step.{Stepped}
use Rattle.scheme.specs.Emit.{numbers_of}
use Rattle.rules.specs.Reading.{Outcome}
use Rattle.rules.specs.Reading.Outcome.{refused, rule}
use Rattle.rules.specs.Computed.{rule_of}
use Rattle.rules.proofs.Runs.{trials-read}
use Rattle.observers.specs.Compile.{observer_of}
use Rattle.std.specs.Prelude.{Ok}
use Rattle.tables.specs.declared.Equation.{Equation}

-- The equations of a row's rule; none if it were refused.
abbrev equations_of : Outcome → List Equation
equations_of (refused n) = []
equations_of (rule t) = observer_of (formula_of t)

-- A call for each tick, with room for the flows.
abbrev calls_of : ℕ → List Tick → List Call
calls_of n ks = map (λ k. record { tick = k; values = replicate n 0 }) ks

-- The answers of n equations to a row's ticks.
abbrev answers_of : List Equation → Trial → List Stepped
answers_of es r =
    let n : ℕ = length es in
    let t : List ℕ = numbers_of es in
    answered (from_fresh standard_cap velocity_count t n (replicate n 7) (calls_of n (ticks_in r)))

-- The tables of the rows' formulas.
tables-ran : map (λ (r : Trial). answers_of (observer_of (formula_of (raw r.formula))) r) trials
    ≡ map (λ (r : Trial). map Ok r.verdicts) trials
unfolding steps freshened fresh_checked stepped step_checked after_tick parameter_fits cell_fits increased value_of
    flows
    is_memory memories_set initial in_range kind_of shape_of same_sort is_flow operand_fits shape_fits length_fits
    equations_fit closes answer_of all
    checked
tables-ran = refl

pub runs : map (λ (r : Trial). answers_of (equations_of (rule_of standard_context (bytes r.text))) r) trials
    ≡ map (λ (r : Trial). map Ok r.verdicts) trials
runs =
    through (λ r. rule_of standard_context (bytes r.text)) (λ r. rule (raw r.formula))
    (λ o r. answers_of (equations_of o) r) trials trials-read
    ∙ tables-ran
