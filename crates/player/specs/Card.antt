-- What the program prints for a card, as a definition on the card's bytes: `printed`. What a line says is
-- `line_says` of the crate cards; here it is played (`played`): a rule is compiled, a tick is a step. Definitions only.
use Rattle.std.specs.Prelude.{List, [], ◌∷◌, ◌++◌, ◌≡◌, ℕ, ◌+◌, ◌<◌, Result, Ok, Err, length, replicate}
use Rattle.limits.specs.declared.Refusal.{Refusal}
use Rattle.limits.specs.Limits.{standard_cap, parameter_count, table_room, equation_limit}
use Rattle.limits.specs.Context.{standard_context}
use Rattle.limits.specs.declared.Context.{Context}
use Rattle.lists.specs.Line.{line_from}
use Rattle.traces.specs.Trace.{tick_of}
use Rattle.observers.specs.Compile.{AfterCompile, compiled}
use Rattle.observers.specs.Demand.{Compiled}
use Rattle.flows.specs.Step.{Fresh, AfterFresh, freshened, Stepped, AfterStep, stepped}
use Rattle.cards.specs.Lines.{cut}
use Rattle.cards.specs.Says.{Says, first_stage, over_stage, broken_by, line_says, stage_after, end_says}
use Rattle.cards.specs.Says.Says.{edition, parameters, rule, count, tick, refused, nothing}
use Rattle.cards.specs.declared.Phase.{Phase}
use Rattle.cards.specs.declared.Stage.{Stage}
use Rattle.cards.specs.declared.TickLine.{TickLine}
use Rattle.player.specs.Output.{output_bytes}
use Rattle.player.specs.declared.Output.{Output}
use Rattle.player.specs.declared.Output.TheVariants as O
use Rattle.player.specs.declared.Player.{Player}
use Rattle.player.specs.declared.Watch.{Watch}

-- ---- the player's memory

-- What the program knows between two lines: the context in which lines are read and steps taken, the stage of the card
-- and the number of equations, the parameters, the table, the state of its memories and the flow values.
pub record World : Type 0 where
  pub context : Context
  pub watch : Watch
  pub parameters : List ℕ
  pub table : List ℕ
  pub state : List ℕ
  pub values : List ℕ

abbrev pub world_in : Context → Watch → List ℕ → List ℕ → List ℕ → List ℕ → World
world_in context w ps t c v = record { context = context; watch = w; parameters = ps; table = t; state = c; values = v }

-- How many velocities there are in it.
abbrev pub velocities_in : World → ℕ
velocities_in w = w.context.velocities

-- The program's world, in the context of the specification,
abbrev pub world_of : Watch → List ℕ → List ℕ → List ℕ → List ℕ → World
world_of w ps t c v = world_in standard_context w ps t c v

-- and what the code's player holds.
abbrev pub held_by : Player → World
held_by p = world_of p.watch p.parameters p.table.now p.state.now p.values.now

-- The arrays that a player is lent stay the same ones, and so each keeps its length.
pub record SameArrays (old new : Player) : Type 0 where
  pub table : new.table.ghost_name ≡ old.table.ghost_name
  pub state : new.state.ghost_name ≡ old.state.ghost_name
  pub values : new.values.ghost_name ≡ old.values.ghost_name
  pub table_length : length new.table.now ≡ length old.table.now
  pub state_length : length new.state.now ≡ length old.state.now
  pub values_length : length new.values.now ≡ length old.values.now

abbrev pub watch_of : Stage → ℕ → Watch
watch_of k n = record { stage = k; n = n }

-- ---- what a line does

-- The world after it, and what it prints.
pub record Effect : Type 0 where
  pub world : World
  pub output : Output

abbrev pub effect_of : Output → World → Effect
effect_of o w = record { world = w; output = o }

-- The world with another watch.
abbrev pub with_watch : Watch → World → World
with_watch k w = world_in w.context k w.parameters w.table w.state w.values

abbrev pub moved_on : Watch → Output → World → Effect
moved_on k o w = effect_of o (with_watch k w)

-- SPEC 10.10: nothing is printed after a refusal. The card is over after this output.
abbrev pub over_watch : Watch
over_watch = watch_of over_stage 0

abbrev pub over_world : World → World
over_world w = with_watch over_watch w

abbrev pub ended_by : Output → World → Effect
ended_by o w = effect_of o (over_world w)

-- The same as the code's answer: a refusal ends the card.
abbrev pub answered : Result Output Refusal → World → Effect
answered (Ok o) w = effect_of o w
answered (Err r) w = ended_by (O.Refused r) w

-- The rule: its answer, and the table and the state that it leaves.
pub record AfterRule : Type 0 where
  pub answer : Compiled
  pub table : List ℕ
  pub state : List ℕ

abbrev pub after_rule : Compiled → List ℕ → List ℕ → AfterRule
after_rule r t c = record { answer = r; table = t; state = c }

abbrev pub fresh_as : ℕ → Fresh → Compiled
fresh_as n (Ok tt) = Ok n
fresh_as n (Err r) = Err r

abbrev pub made_fresh : ℕ → List ℕ → AfterFresh → AfterRule
made_fresh n t f = after_rule (fresh_as n f.answer) t f.state

abbrev pub made_as : ℕ → Compiled → List ℕ → List ℕ → AfterRule
made_as velocities (Ok n) t c = made_fresh n t (freshened velocities t n c)
made_as velocities (Err r) t c = after_rule (Err r) t c

abbrev pub made_by : ℕ → AfterCompile → List ℕ → AfterRule
made_by velocities k c = made_as velocities k.answer k.table c

-- SPEC 10.9: at its line a rule is judged. It is compiled, and its fresh state made.
unfoldable pub rule_made : Context → List ℕ → List ℕ → List ℕ → AfterRule
rule_made context text t c = made_by context.velocities (compiled context text t) c

-- A rule with a refusal ends the card.
abbrev pub with_rule : Stage → Compiled → World → Effect
with_rule k (Ok n) w = moved_on (watch_of k n) O.Quiet w
with_rule k (Err r) w = ended_by (O.Refused r) w

abbrev pub ruled_world : AfterRule → World → World
ruled_world r w = world_in w.context w.watch w.parameters r.table r.state w.values

abbrev pub rule_effect : Stage → AfterRule → World → Effect
rule_effect k r w = with_rule k r.answer (ruled_world r w)

-- A tick line: one step.
abbrev pub with_step : Stage → Stepped → World → Effect
with_step k (Ok v) w = moved_on (watch_of k w.watch.n) (O.Verdict v) w
with_step k (Err r) w = ended_by (O.Refused r) w

abbrev pub stepped_world : AfterStep → World → World
stepped_world a w = world_in w.context w.watch w.parameters w.table a.state a.values

abbrev pub step_effect : Stage → AfterStep → World → Effect
step_effect k a w = with_step k a.answer (stepped_world a w)

abbrev pub step_of : TickLine → World → AfterStep
step_of t w =
    stepped standard_cap (velocities_in w) w.table w.watch.n w.state w.values
    (tick_of t.start t.signals t.velocity w.parameters)

abbrev pub tick_effect : Stage → TickLine → World → Effect
tick_effect k t w = step_effect k (step_of t w) w

-- What a line does that says so, k being the stage after it.
abbrev pub played_to : Stage → Says → World → Effect
played_to k (edition e) w = moved_on (watch_of k 0) O.Quiet w
played_to k (parameters ps) w =
    effect_of O.Quiet (world_in w.context (watch_of k 0) ps w.table w.state w.values)
played_to k (rule text) w = rule_effect k (rule_made w.context text w.table w.state) w
played_to k (count m) w = moved_on (watch_of k w.watch.n) O.Quiet w
played_to k (tick t) w = tick_effect k t w
played_to k (refused r) w = ended_by (O.Refused r) w
played_to k nothing w = ended_by O.Quiet w

unfoldable pub played : World → Says → Effect
played w s = played_to (stage_after w.watch.stage s) s w

-- SPEC 10.9, one line after another: what a line does, given without its byte 10.
unfoldable pub lined : World → List ℕ → Effect
lined w l = played w (line_says (velocities_in w) w.watch.stage l)

-- The line of the bytes s at the place `at` ends before the place `to`, and its line end is among the bytes.
pub record WholeLine (s : List ℕ) (at to : ℕ) : Type 0 where
  pub ends : to ≡ at + length (line_from s at)
  pub whole : to < length s

-- ---- what is printed

-- What is printed for a line that ends the card: a refusal (SPEC 10.10), or nothing.
abbrev pub last_output : Says → Output
last_output (edition e) = O.Quiet
last_output (parameters ps) = O.Quiet
last_output (rule text) = O.Quiet
last_output (count k) = O.Quiet
last_output (tick t) = O.Quiet
last_output (refused r) = O.Refused r
last_output nothing = O.Quiet

-- What a broken line prints.
abbrev pub broken_bytes : Phase → List ℕ
broken_bytes p = output_bytes (last_output (broken_by p))

-- A refusal prints at most so many bytes, and no output is longer.
abbrev pub longest_output : ℕ
longest_output = 11

-- What is printed for these lines and then the end of the input after these bytes.
unfoldable pub owed : World → List (List ℕ) → List ℕ → List ℕ
owed w [] tail = output_bytes (last_output (end_says w.watch.stage (length tail)))
owed w (l ∷ ls) tail = output_bytes (lined w l).output ++ owed (lined w l).world ls tail

-- What is printed from here on, if these are all the bytes that are left.
unfoldable pub prints : World → List ℕ → List ℕ
prints w s = owed w (cut s).whole (cut s).tail

-- Before the first line: the lent arrays are 0.
abbrev pub start_world : World
start_world =
    world_of (watch_of first_stage 0)
    (replicate parameter_count 0) (replicate table_room 0) (replicate equation_limit 0) (replicate equation_limit 0)

-- What the program prints for a whole card.
unfoldable pub printed : List ℕ → List ℕ
printed card = prints start_world card
