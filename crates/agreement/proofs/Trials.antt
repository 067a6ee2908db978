-- P1 to P13 and the further rows, by computation: the answers of each row's observer, over the five ticks from the
-- fresh state, are the verdicts, which are the interval meaning's (formulas, proofs/Trials.antt). What Theorem asks of
-- a formula holds of each. Assumes nothing.
use mathlib.Core.Bool.{Bool, true, ◌&&◌}
use mathlib.Core.Path.{◌≡◌, refl}
use mathlib.Core.List.{List, map}
use lib.Dec.{leb}
use lib.ListN.{length}
use Rattle.traces.specs.Parameters.{parameter_fits}
use Rattle.formulas.specs.Formula.{Formula}
use Rattle.formulas.specs.Tree.{leads}
use Rattle.formulas.specs.Bounds.{bounded}
use Rattle.formulas.specs.Arena.{flat}
use Rattle.formulas.specs.Raw.{raw}
use Rattle.formulas.specs.Trials.{Trial, trials, further_trials}
use Rattle.tables.specs.Table.{all, kind_of, shape_of, same_sort, is_flow, operand_fits, shape_fits, length_fits}
use Rattle.tables.specs.Table.{equations_fit, closes}
use Rattle.limits.specs.Limits.{arena_limit, standard_cap, velocity_count}
use Rattle.flows.specs.Flow.{increased, value_of, flows, answer_of, memories_set, initial, in_range}
use Rattle.tables.specs.Table.{is_memory}
use Rattle.flows.specs.Step.{cell_fits, fresh_checked, step_checked, freshened, after_tick, stepped}
use Rattle.flows.specs.Run.{steps}
use Rattle.agreement.specs.Trials.{ran}
use Rattle.std.specs.Prelude.{Ok}

-- The observers of these rows answer the verdicts.
abbrev pub AllRan : List Trial → Type 0
AllRan rs = map ran rs ≡ map (λ (r : Trial). map Ok r.verdicts) rs

rows-ran : AllRan trials × AllRan further_trials
unfolding all kind_of shape_of same_sort is_flow operand_fits shape_fits length_fits equations_fit closes
    increased value_of flows answer_of is_memory memories_set initial in_range
    parameter_fits cell_fits fresh_checked step_checked freshened after_tick stepped steps
rows-ran = (refl, refl)

pub trials-ran : AllRan trials
trials-ran = rows-ran.0

pub further-ran : AllRan further_trials
further-ran = rows-ran.1

-- What Theorem asks of a formula.
abbrev covered : Formula → Bool
covered f = leads (raw f) && (bounded standard_cap velocity_count (raw f) && leb (length (flat (raw f))) arena_limit)

abbrev pub AllCovered : List Trial → Type 0
AllCovered rs = map (λ (r : Trial). covered r.formula) rs ≡ map (λ (r : Trial). true) rs

pub trials-covered : AllCovered trials
trials-covered = refl

pub further-covered : AllCovered further_trials
further-covered = refl
