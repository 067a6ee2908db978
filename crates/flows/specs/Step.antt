-- The fresh state and the step with their refusals: the whole effect of a call as one record. Definitions only.
use Rattle.std.specs.Prelude.{Option}
use Rattle.std.specs.Prelude.{Bool, not, ◌&&◌, ◌||◌, List, [], ◌∷◌, ◌++◌, ℕ, leb, ltb, length, drop}
use Rattle.std.specs.Prelude.{Result, Ok, Err}
use Rattle.traces.specs.declared.Tick.{Tick}
use Rattle.traces.specs.Parameters.{parameters_fit}
use Rattle.lists.specs.Number.{number_at}
use Rattle.tables.specs.Table.{all, kind_at, sort_of}
use Rattle.tables.specs.Table.{is_memory}
use Rattle.tables.specs.Table.{Test, test, Checked, first_failed, table_tests}
use Rattle.flows.specs.Flow.{flows, answer_of, in_range, fresh_state, next_state}
use Rattle.limits.specs.Reply.{Reply, gives, refused}
use Rattle.limits.specs.Refusal.{number}
use Rattle.limits.specs.declared.Refusal.{Refusal}
use Rattle.limits.specs.declared.Refusal.TheVariants.{CellOutOfRange, ParameterTooHigh, ShortState, VelocityTooHigh}
use Rattle.tables.specs.declared.Kind.{Kind}

-- What making a fresh state answers.
abbrev pub Fresh : Type 0
Fresh = Result (Unit {0}) Refusal

-- What a step answers: 0, 1 or 2, which is idle.
abbrev pub Stepped : Type 0
Stepped = Result ℕ Refusal

-- SPEC 8.4: there is no result.
abbrev pub fresh_reply : Fresh → Reply
fresh_reply (Ok tt) = gives 0
fresh_reply (Err r) = refused (number r)

-- SPEC 8.5: the result is the answer, 0, 1 or 2.
abbrev pub step_reply : Stepped → Reply
step_reply (Ok v) = gives v
step_reply (Err r) = refused (number r)

-- SPEC 8.4: the tests of a fresh state, in order, where there are so many velocities. The test of refusal 12
-- (SPEC 7.12): each equation has a cell.
abbrev pub fresh_tests : ℕ → List ℕ → ℕ → List ℕ → List Test
fresh_tests velocities t n state = table_tests velocities t n ++ (test ShortState (leb n (length state)) ∷ [])

-- The test of refusal 12 of a step (SPEC 7.12): each equation has a cell, and a place among the values.
abbrev pub room_test : ℕ → List ℕ → List ℕ → Test
room_test n state values = test ShortState (leb n (length state) && leb n (length values))

-- The test of refusal 13 (SPEC 7.13).
abbrev pub parameter_test : ℕ → Tick → Test
parameter_test cap k = test ParameterTooHigh (parameters_fit cap k.parameters)

-- The cell x of an equation of that kind is in its sort's range, if it is a memory's.
unfoldable pub cell_fits : ℕ → Option Kind → ℕ → Bool
cell_fits cap q x = not (is_memory q) || in_range cap (sort_of q) x

abbrev pub cell_fits_at : ℕ → List ℕ → List ℕ → ℕ → Bool
cell_fits_at cap t state i = cell_fits cap (kind_at t i) (number_at state i)

abbrev pub cells_fit : ℕ → List ℕ → ℕ → List ℕ → Bool
cells_fit cap t n state = all (cell_fits_at cap t state) n

-- The test of refusal 14 (SPEC 7.14): every memory's cell is in range (SPEC 5.2).
abbrev pub cell_test : ℕ → List ℕ → ℕ → List ℕ → Test
cell_test cap t n state = test CellOutOfRange (cells_fit cap t n state)

-- The test of refusal 19 (SPEC 7.19): the tick's velocity is below how many there are, which is `velocity_count` in
-- that clause.
abbrev pub velocity_test : ℕ → Tick → Test
velocity_test velocities k = test VelocityTooHigh (ltb k.velocity velocities)

-- SPEC 8.5: the tests of a step, in order.
abbrev pub step_tests : ℕ → ℕ → List ℕ → ℕ → List ℕ → List ℕ → Tick → List Test
step_tests cap velocities t n state values k =
    table_tests velocities t n
    ++ (room_test n state values ∷ parameter_test cap k ∷ cell_test cap t n state ∷ velocity_test velocities k ∷ [])

-- What the tests of a fresh state say of a call: the first refusal, or none.
unfoldable pub fresh_checked : ℕ → List ℕ → ℕ → List ℕ → Checked
fresh_checked velocities t n state = first_failed (fresh_tests velocities t n state)

-- The same of a step.
unfoldable pub step_checked : ℕ → ℕ → List ℕ → ℕ → List ℕ → List ℕ → Tick → Checked
step_checked cap velocities t n state values k = first_failed (step_tests cap velocities t n state values k)

-- What making a fresh state answers, and the state that it leaves.
pub record AfterFresh : Type 0 where
  pub answer : Fresh
  pub state : List ℕ

abbrev pub after_fresh : Fresh → List ℕ → AfterFresh
after_fresh r state = record { answer = r; state = state }

-- SPEC 1.4: a refusal leaves the state as it was.
abbrev pub freshened_if : Checked → List ℕ → ℕ → List ℕ → AfterFresh
freshened_if (Ok tt) t n state = after_fresh (Ok tt) (fresh_state t n state)
freshened_if (Err r) t n state = after_fresh (Err r) state

-- SPEC 8.4: the whole effect of making a fresh state.
unfoldable pub freshened : ℕ → List ℕ → ℕ → List ℕ → AfterFresh
freshened velocities t n state = freshened_if (fresh_checked velocities t n state) t n state

-- What a step answers, and the state and the values that it leaves.
pub record AfterStep : Type 0 where
  pub answer : Stepped
  pub state : List ℕ
  pub values : List ℕ

abbrev pub after_step : Stepped → List ℕ → List ℕ → AfterStep
after_step r state values = record { answer = r; state = state; values = values }

-- After a tick with the flows fs: they give the answer, the values begin with them (SPEC 5.9), and what stands behind
-- is kept (SPEC 1.5).
abbrev pub after_flows : List ℕ → ℕ → List ℕ → List ℕ → List ℕ → AfterStep
after_flows t n state values fs =
    after_step (Ok (answer_of n (number_at fs))) (next_state t fs n state) (fs ++ drop n values)

-- After a step that is not refused.
unfoldable pub after_tick : ℕ → List ℕ → ℕ → List ℕ → List ℕ → Tick → AfterStep
after_tick cap t n state values k = after_flows t n state values (flows cap t k state n)

-- SPEC 1.4: a refusal leaves state and values as they were.
abbrev pub stepped_if : Checked → ℕ → List ℕ → ℕ → List ℕ → List ℕ → Tick → AfterStep
stepped_if (Ok tt) cap t n state values k = after_tick cap t n state values k
stepped_if (Err r) cap t n state values k = after_step (Err r) state values

-- SPEC 8.5: the whole effect of a step.
unfoldable pub stepped : ℕ → ℕ → List ℕ → ℕ → List ℕ → List ℕ → Tick → AfterStep
stepped cap velocities t n state values k =
    stepped_if (step_checked cap velocities t n state values k) cap t n state values k
