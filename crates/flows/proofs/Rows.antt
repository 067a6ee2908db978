-- A table with an equation of each kind but 12 and one with tests of the velocity, and what their checks, their fresh
-- state and their steps give, by computation. Assumes nothing.
use mathlib.Core.Path.{◌≡◌, refl}
use mathlib.Core.Bool.{true}
use mathlib.Core.List.{List, [], ◌∷◌, ◌++◌, map}
use Prim.Native.Nat.{ℕ, ◌-◌}
use lib.ListN.{replicate, drop}
use Rattle.traces.specs.Trace.{tick_of}
use Rattle.traces.specs.declared.Tick.{Tick}
use Rattle.traces.specs.Parameters.{parameter_fits}
use Rattle.tables.specs.Table.{all, kind_of, shape_of, same_sort, is_flow, operand_fits, shape_fits, length_fits}
use Rattle.tables.specs.Table.{equations_fit, closes, checked}
use Rattle.limits.specs.Limits.{parameter_count, standard_cap, velocity_count}
use Rattle.limits.specs.Reply.{Reply, gives, refused}
use Rattle.tables.specs.Reply.{checked_reply}
use Rattle.tables.specs.Table.{Checked}
use Rattle.flows.specs.Flow.{increased, value_of, flows, answer_of, memories_set, initial, in_range}
use Rattle.tables.specs.Table.{is_memory}
use Rattle.flows.specs.Step.{fresh_reply, step_reply}
use Rattle.flows.specs.Step.{cell_fits, fresh_checked, step_checked, freshened, after_step, after_tick}
use Rattle.flows.specs.Step.{stepped}
use Rattle.flows.specs.Run.{Call, steps, answered}
use Rattle.std.specs.Prelude.{Ok}

-- f0=s5; f1=b; f2=true; f3=not f0; f4=f0 and f1; f5=f0 or f1; f6=true->pre(f0); f7=0->pre(f8); f8=cap(f7,f0);
-- f9=if f6 then f8 else 0; f10=f8>1; f11=f8<=k0;
abbrev table : List ℕ
table =
    0 ∷ 5 ∷ 0 ∷ 0 ∷ 1 ∷ 0 ∷ 0 ∷ 0 ∷ 2 ∷ 1 ∷ 0 ∷ 0 ∷ 3 ∷ 0 ∷ 0 ∷ 0 ∷ 4 ∷ 0 ∷ 1 ∷ 0 ∷ 5 ∷ 0 ∷ 1 ∷ 0
    ∷ 6 ∷ 0 ∷ 0 ∷ 1 ∷ 7 ∷ 8 ∷ 0 ∷ 0 ∷ 8 ∷ 7 ∷ 0 ∷ 0 ∷ 9 ∷ 6 ∷ 8 ∷ 0 ∷ 10 ∷ 8 ∷ 3 ∷ 1 ∷ 11 ∷ 8 ∷ 0 ∷ 0 ∷ []

-- A tick with that start, these signals and that velocity, k0 = x and the other parameters 0; one of velocity 0.
abbrev struck : ℕ → ℕ → ℕ → ℕ → Tick
struck s g v x = tick_of s g v (x ∷ replicate (parameter_count - 1) 0)

abbrev tick : ℕ → ℕ → ℕ → Tick
tick s g x = struck s g 0 x

-- Fourteen cells before the fresh state, each 9, and after it.
abbrev old : List ℕ
old = replicate 14 9

abbrev fresh : List ℕ
fresh = replicate 6 9 ++ (1 ∷ 0 ∷ replicate 6 9)

abbrev call : ℕ → ℕ → ℕ → ℕ → Call
call s g x room = record { tick = tick s g x; values = replicate room 7 }

-- What the specification's check answers.
abbrev check : List ℕ → ℕ → Checked
check = checked velocity_count

-- What a list of calls answers, as numbers (SPEC 1.4).
abbrev told : List Call → List Reply
told xs = map step_reply (answered (steps standard_cap velocity_count table 12 fresh xs))

-- The table itself; none, too few or too many equations; without its first. Then by how its first equations close: a
-- count last (SPEC 5.5), a count last but one, one equation alone, two booleans.
check-rows : map checked_reply
    (check table 12 ∷ check table 0 ∷ check table 13 ∷ check table 4097 ∷ check (drop 4 table) 11
    ∷ check table 10 ∷ check table 11 ∷ check table 1 ∷ check table 2 ∷ [])
    ≡ gives 0 ∷ refused 10 ∷ refused 10 ∷ refused 10 ∷ refused 11
    ∷ refused 11 ∷ refused 11 ∷ refused 11 ∷ gives 0 ∷ []
unfolding checked length_fits equations_fit closes all shape_fits shape_of kind_of operand_fits is_flow same_sort
check-rows = refl

fresh-row : (freshened velocity_count table 12 old).state ≡ fresh
unfolding freshened fresh_checked length_fits equations_fit closes all shape_fits shape_of kind_of operand_fits is_flow
    same_sort
    memories_set is_memory initial
fresh-row = refl

fresh-short : fresh_reply (freshened velocity_count table 12 (replicate 11 9)).answer ≡ refused 12
unfolding freshened fresh_checked length_fits equations_fit closes all shape_fits shape_of kind_of operand_fits is_flow
    same_sort
fresh-short = refl

-- One equation alone, and a count last but one: 11, before all that a fresh state and a step refuse by 12 and 13.
fresh-unclosed : map fresh_reply
    ((freshened velocity_count table 1 []).answer ∷ (freshened velocity_count table 11 []).answer ∷ [])
    ≡ refused 11 ∷ refused 11 ∷ []
unfolding freshened fresh_checked length_fits equations_fit closes all shape_fits shape_of kind_of operand_fits is_flow
    same_sort
fresh-unclosed = refl

step-unclosed : map step_reply
    ((stepped standard_cap velocity_count table 1 [] [] (tick 1 32 1000000)).answer
    ∷ (stepped standard_cap velocity_count table 11 [] [] (tick 1 32 1000000)).answer ∷ [])
    ≡ refused 11 ∷ refused 11 ∷ []
unfolding stepped step_checked length_fits equations_fit closes all shape_fits shape_of kind_of operand_fits is_flow
    same_sort
step-unclosed = refl

-- Three ticks, with refused calls among them: too few values (SPEC 7.12), and too high a parameter (SPEC 7.13). The
-- started flow, f10, is 0 at the first tick.
step-rows : told
    (call 1 32 1 12 ∷ call 1 32 1 11 ∷ call 0 32 1 13 ∷ call 0 0 1000000 12 ∷ call 0 0 1 12 ∷ [])
    ≡ gives 2 ∷ refused 12 ∷ gives 0 ∷ refused 13 ∷ gives 0 ∷ []
unfolding steps stepped step_checked length_fits equations_fit closes all shape_fits shape_of kind_of operand_fits
    is_flow
    same_sort memories_set is_memory after_tick answer_of flows value_of increased parameter_fits cell_fits in_range
step-rows = refl

-- The second of these ticks whole.
step_row : stepped standard_cap velocity_count table 12
    (replicate 6 9 ++ (1 ∷ 1 ∷ replicate 6 9)) (replicate 13 7) (tick 0 32 1)
    ≡ after_step (Ok 0) (replicate 6 9 ++ (1 ∷ 2 ∷ replicate 6 9))
    (1 ∷ 0 ∷ 1 ∷ 0 ∷ 0 ∷ 1 ∷ 1 ∷ 1 ∷ 2 ∷ 2 ∷ 1 ∷ 0 ∷ 7 ∷ [])
unfolding stepped step_checked length_fits equations_fit closes all shape_fits shape_of kind_of operand_fits is_flow
    same_sort
    memories_set is_memory after_tick answer_of flows value_of increased parameter_fits cell_fits in_range
step_row = refl

-- f0=s5; f1=s6; a started flow that does not last: the answer is idle again where it is 0.
falls-back : map step_reply
    (answered (steps standard_cap velocity_count (0 ∷ 5 ∷ 0 ∷ 0 ∷ 0 ∷ 6 ∷ 0 ∷ 0 ∷ []) 2 (replicate 2 9)
    (call 0 32 0 2 ∷ call 0 64 0 2 ∷ call 0 96 0 2 ∷ call 1 0 0 2 ∷ [])))
    ≡ gives 0 ∷ gives 2 ∷ gives 1 ∷ gives 2 ∷ []
unfolding steps stepped step_checked length_fits equations_fit closes all shape_fits shape_of kind_of operand_fits
    is_flow
    same_sort memories_set is_memory after_tick answer_of flows value_of increased parameter_fits cell_fits in_range
falls-back = refl

-- A count at the cap stays there, and a cell above it is refused.
cap-row : increased standard_cap standard_cap true ≡ standard_cap
unfolding increased
cap-row = refl

cell_row :
    step_reply
    (stepped standard_cap velocity_count table 12
    (replicate 7 1 ++ (1000001 ∷ replicate 4 0)) (replicate 12 7) (tick 0 0 1)).answer
    ≡ refused 14
unfolding stepped step_checked length_fits equations_fit closes all shape_fits shape_of kind_of operand_fits is_flow
    same_sort
    parameter_fits cell_fits in_range is_memory
cell_row = refl

-- ---- kind 12, and the velocity of a tick

-- f0=v<=90; f1=v<90; f2=v=90; f3=v>90; f4=v>=90; f5=true; f6=v>=127;
abbrev strokes : List ℕ
strokes =
    12 ∷ 0 ∷ 90 ∷ 0 ∷ 12 ∷ 1 ∷ 90 ∷ 0 ∷ 12 ∷ 2 ∷ 90 ∷ 0 ∷ 12 ∷ 3 ∷ 90 ∷ 0 ∷ 12 ∷ 4 ∷ 90 ∷ 0
    ∷ 2 ∷ 1 ∷ 0 ∷ 0 ∷ 12 ∷ 4 ∷ 127 ∷ 0 ∷ []

-- What a step with that velocity leaves in the values.
abbrev flows_at : ℕ → List ℕ
flows_at v = (stepped standard_cap velocity_count strokes 7 (replicate 7 9) (replicate 7 7) (struck 0 0 v 0)).values

-- Each of the five comparisons, the velocity first, one below the literal, at it and one above; then at both ends.
comparison-rows : map flows_at (89 ∷ 90 ∷ 91 ∷ 0 ∷ 127 ∷ [])
    ≡ (1 ∷ 1 ∷ 0 ∷ 0 ∷ 0 ∷ 1 ∷ 0 ∷ []) ∷ (1 ∷ 0 ∷ 1 ∷ 0 ∷ 1 ∷ 1 ∷ 0 ∷ []) ∷ (0 ∷ 0 ∷ 0 ∷ 1 ∷ 1 ∷ 1 ∷ 0 ∷ [])
    ∷ (1 ∷ 1 ∷ 0 ∷ 0 ∷ 0 ∷ 1 ∷ 0 ∷ []) ∷ (0 ∷ 0 ∷ 0 ∷ 1 ∷ 1 ∷ 1 ∷ 1 ∷ []) ∷ []
unfolding stepped step_checked length_fits equations_fit closes all shape_fits shape_of kind_of operand_fits is_flow
    same_sort
    memories_set is_memory after_tick answer_of flows value_of increased parameter_fits cell_fits in_range
comparison-rows = refl

-- A is below 5, the number of comparisons, the literal is not above 127, and C is 0; these tables end with f1=true.
abbrev stroke : ℕ → ℕ → ℕ → List ℕ
stroke a b c = 12 ∷ a ∷ b ∷ c ∷ 2 ∷ 1 ∷ 0 ∷ 0 ∷ []

literal-rows : map checked_reply
    (check (stroke 4 127 0) 2 ∷ check (stroke 4 128 0) 2 ∷ check (stroke 5 127 0) 2 ∷ check (stroke 4 127 1) 2 ∷ [])
    ≡ gives 0 ∷ refused 11 ∷ refused 11 ∷ refused 11 ∷ []
unfolding checked length_fits equations_fit closes all shape_fits shape_of kind_of operand_fits is_flow same_sort
literal-rows = refl

-- SPEC 7.19, after all the others: a velocity above 127, too few values, a parameter at the cap, a cell out of range.
abbrev refusal_of : ℕ → ℕ → ℕ → ℕ → Reply
refusal_of room x cell v =
    let cells = replicate 7 1 ++ (cell ∷ replicate 4 0) in
    step_reply (stepped standard_cap velocity_count table 12 cells (replicate room 7) (struck 0 0 v x)).answer

velocity-rows : (
    refusal_of 12 1 0 127 ∷ refusal_of 12 1 0 128 ∷ refusal_of 11 1 0 128 ∷ refusal_of 12 1000000 0 128
    ∷ refusal_of 12 1 1000001 128 ∷ [])
    ≡ gives 2 ∷ refused 19 ∷ refused 12 ∷ refused 13 ∷ refused 14 ∷ []
unfolding stepped step_checked length_fits equations_fit closes all shape_fits shape_of kind_of operand_fits is_flow
    same_sort
    memories_set is_memory after_tick answer_of flows value_of increased parameter_fits cell_fits in_range
velocity-rows = refl
