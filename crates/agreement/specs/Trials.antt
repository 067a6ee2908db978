-- What the observer of a trial run's formula (formulas, specs/Trials.antt) answers, over the five ticks from the fresh
-- state. Definitions only.
use Rattle.std.specs.Prelude.{List, map, ℕ, length, replicate}
use Rattle.limits.specs.Limits.{standard_cap, velocity_count}
use Rattle.traces.specs.declared.Tick.{Tick}
use Rattle.formulas.specs.Trials.{Trial, ticks_in}
use Rattle.flows.specs.Run.{Call, from_fresh, answered}
use Rattle.flows.specs.Step.{Stepped}
use Rattle.scheme.specs.Emit.{observer, numbers_of}

-- What the n equations of the table answer at the ticks, from the fresh state over cells that are all 7.
abbrev pub answers_at : List ℕ → ℕ → List Tick → List Stepped
answers_at t n ks =
    let calls : List Call = map (λ k. record { tick = k; values = replicate n 7 }) ks in
    answered (from_fresh standard_cap velocity_count t n (replicate n 7) calls)

abbrev pub ran : Trial → List Stepped
ran r = answers_at (numbers_of (observer r.formula)) (length (observer r.formula)) (ticks_in r)
