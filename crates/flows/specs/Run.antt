-- Lists of calls of a step (SPEC 6.1), and their ticks (SPEC 6.2). Definitions only.
use Rattle.std.specs.Prelude.{List, [], ◌∷◌, map, ◌≡◌, ℕ, suc, leb, length, Ok, Err}
use Rattle.traces.specs.declared.Tick.{Tick}
use Rattle.traces.specs.Parameters.{with_parameters}
use Rattle.tables.specs.Table.{test, Checked, passed, first_failed}
use Rattle.flows.specs.Step.{freshened, Stepped, AfterStep, parameter_test, velocity_test, stepped}
use Rattle.limits.specs.declared.Refusal.{Refusal}
use Rattle.limits.specs.declared.Refusal.TheVariants.{ShortState}

-- SPEC 6.1: what a step gets besides the table, n and the state. It may be anything.
pub record Call : Type 0 where
  pub tick : Tick
  pub values : List ℕ

-- The call with these parameters in place of its own.
abbrev pub call_with : List ℕ → Call → Call
call_with ps x = record { tick = with_parameters ps x.tick; values = x.values }

-- What a call does to a state.
abbrev pub called : ℕ → ℕ → List ℕ → ℕ → List ℕ → Call → AfterStep
called cap velocities t n state x = stepped cap velocities t n state x.values x.tick

-- A step of a list: what it was given, and what it answered and left.
pub record Taken : Type 0 where
  pub call : Call
  pub left : AfterStep

-- SPEC 6.1: the steps of a list of calls, each on the state that is left by the one before.
unfoldable pub steps : ℕ → ℕ → List ℕ → ℕ → List ℕ → List Call → List Taken
steps cap velocities t n state [] = []
steps cap velocities t n state (x ∷ xs) =
    record { call = x; left = called cap velocities t n state x }
    ∷ steps cap velocities t n (called cap velocities t n state x).state xs

-- The same from the fresh state over the cells `old`.
abbrev pub from_fresh : ℕ → ℕ → List ℕ → ℕ → List ℕ → List Call → List Taken
from_fresh cap velocities t n old calls = steps cap velocities t n (freshened velocities t n old).state calls

abbrev pub answered : List Taken → List Stepped
answered ss = map (λ (s : Taken). s.left.answer) ss

-- SPEC 6.2: the ticks of the steps that are not refused.
abbrev pub tick_if : Stepped → Tick → List Tick → List Tick
tick_if (Ok v) k ks = k ∷ ks
tick_if (Err r) k ks = ks

abbrev pub ticks : List Taken → List Tick
ticks [] = []
ticks (s ∷ ss) = tick_if s.left.answer s.call.tick (ticks ss)

-- SPEC 6.2: P holds of each tick's number and its step, from the number k on; a refused step has no number.
pub data EachTick (P : ℕ → Taken → Type 0) : ℕ → List Taken → Type 0 where
  none : {k : ℕ} → EachTick P k []
  tick : {k v : ℕ} {s : Taken} {ss : List Taken} → s.left.answer ≡ Ok v → P k s → EachTick P (suc k) ss
      → EachTick P k (s ∷ ss)
  refused : {k : ℕ} {r : Refusal} {s : Taken} {ss : List Taken} → s.left.answer ≡ Err r → EachTick P k ss
      → EachTick P k (s ∷ ss)

-- The tests of a step that its call alone decides.
unfoldable pub call_checked : ℕ → ℕ → ℕ → List ℕ → Tick → Checked
call_checked cap velocities n values k =
    first_failed (test ShortState (leb n (length values)) ∷ parameter_test cap k ∷ velocity_test velocities k ∷ [])

abbrev pub admits : ℕ → ℕ → ℕ → Call → Checked
admits cap velocities n x = call_checked cap velocities n x.values x.tick

abbrev pub refusal_in : Stepped → Checked
refusal_in (Ok v) = passed
refusal_in (Err r) = Err r

-- SPEC 6.5: each step is refused, or not, as these tests of its call say.
abbrev pub CallsDecide : ℕ → ℕ → ℕ → List Call → List Taken → Type 0
CallsDecide cap velocities n calls ss = map refusal_in (answered ss) ≡ map (admits cap velocities n) calls
