-- What a line of a card says (`line_says`), the line that comes next after it (`stage_after`), and what the end of the
-- input says (`end_says`): the card as lines, with no table, no state and no step. A rule's own refusal and a step's
-- are the player's. Definitions only.
use Rattle.std.specs.Prelude.{Bool, true, false, cond, List, [], ◌∷◌, Option, Some, None, Result, Ok, Err, ℕ, ◌-◌, eqb}
use Rattle.limits.specs.declared.Refusal.{Refusal}
use Rattle.lists.specs.Same.{same}
use Rattle.cards.specs.Heads.{editions, edition_line, no_edition, rule_head, after_head, head_refusal, tick_refusal}
use Rattle.cards.specs.Numbers.{has_prefix, parameters_of, count_of}
use Rattle.cards.specs.Ticks.{tick_line}
use Rattle.cards.specs.Lines.{over_long}
use Rattle.cards.specs.declared.Phase.{Phase}
use Rattle.cards.specs.declared.Phase.TheVariants as P
use Rattle.cards.specs.declared.Stage.{Stage}
use Rattle.cards.specs.declared.Content.{Content}
use Rattle.cards.specs.declared.Content.TheVariants as C
use Rattle.cards.specs.declared.TickLine.{TickLine}

-- What a line says: the edition, the eight parameters, the rule text, the number of ticks, a tick's start, signals and
-- velocity, a refusal; nothing, once the card is over.
pub data Says : Type 0 where
  edition : ℕ → Says
  parameters : List ℕ → Says
  rule : List ℕ → Says
  count : ℕ → Says
  tick : TickLine → Says
  refused : Refusal → Says
  nothing : Says

-- What the code's answer says: the rule text is the part after `watch=` of the line l.
abbrev pub says_by : Result Content Refusal → List ℕ → Says
says_by (Ok (C.Edition e)) l = edition e
says_by (Ok (C.Parameters ps)) l = parameters ps
says_by (Ok C.Rule) l = rule (after_head rule_head l)
says_by (Ok (C.Count k)) l = count k
says_by (Ok (C.Tick t)) l = tick t
says_by (Ok C.Nothing) l = nothing
says_by (Err r) l = refused r

abbrev pub stage_at : Phase → ℕ → ℕ → Stage
stage_at p e left = record { phase = p; edition = e; left = left }

-- Before the first line, and once the card is over.
abbrev pub first_stage : Stage
first_stage = stage_at P.Edition no_edition 0

abbrev pub over_stage : Stage
over_stage = stage_at P.Over no_edition 0

abbrev pub is_over : Phase → Bool
is_over P.Edition = false
is_over P.Parameters = false
is_over P.Rule = false
is_over P.Count = false
is_over P.Ticks = false
is_over P.Over = true

-- What a line says that fails (SPEC 10.7): nothing once the card is over.
abbrev pub broken_by : Phase → Says
broken_by P.Edition = refused head_refusal
broken_by P.Parameters = refused head_refusal
broken_by P.Rule = refused head_refusal
broken_by P.Count = refused head_refusal
broken_by P.Ticks = refused tick_refusal
broken_by P.Over = nothing

-- The first line (SPEC 10.2): the one of these editions whose line it is, byte by byte, or none.
abbrev pub edition_in : List ℕ → List ℕ → Option ℕ
edition_in [] l = None
edition_in (e ∷ es) l = cond (same l (edition_line e)) (Some e) (edition_in es l)

abbrev pub edition_of : List ℕ → Option ℕ
edition_of l = edition_in editions l

abbrev pub edition_says : Option ℕ → Says
edition_says (Some e) = edition e
edition_says None = refused head_refusal

-- The second line (SPEC 10.3).
abbrev pub parameters_say : Option (List ℕ) → Says
parameters_say (Some ps) = parameters ps
parameters_say None = refused head_refusal

-- The fourth line (SPEC 10.5).
abbrev pub count_says : Option ℕ → Says
count_says (Some k) = count k
count_says None = refused head_refusal

-- A tick line (SPEC 10.6),
abbrev pub tick_says : Option TickLine → Says
tick_says (Some t) = tick t
tick_says None = refused tick_refusal

-- where so many ticks are left: with none left, any line is one too many (SPEC 10.8).
abbrev pub tick_in : ℕ → ℕ → ℕ → List ℕ → Says
tick_in velocities e left l = cond (eqb left 0) (refused tick_refusal) (tick_says (tick_line velocities e l))

-- What a line says that is not too long, in an edition and where so many ticks are left. The third has the rule's text
-- (SPEC 10.4).
abbrev pub says_in : ℕ → Phase → ℕ → ℕ → List ℕ → Says
says_in velocities P.Edition e left l = edition_says (edition_of l)
says_in velocities P.Parameters e left l = parameters_say (parameters_of l)
says_in velocities P.Rule e left l =
    cond (has_prefix rule_head l) (rule (after_head rule_head l)) (refused head_refusal)
says_in velocities P.Count e left l = count_says (count_of l)
says_in velocities P.Ticks e left l = tick_in velocities e left l
says_in velocities P.Over e left l = nothing

-- SPEC 10.9, one line after another: what a line says, given without its byte 10.
unfoldable pub line_says : ℕ → Stage → List ℕ → Says
line_says velocities k l =
    cond (over_long l) (broken_by k.phase) (says_in velocities k.phase k.edition k.left l)

-- The stage after a line: the edition goes on, and a tick is one less that is left. After a refusal the card is over
-- (SPEC 10.10).
abbrev pub stage_after : Stage → Says → Stage
stage_after k (edition e) = stage_at P.Parameters e 0
stage_after k (parameters ps) = stage_at P.Rule k.edition 0
stage_after k (rule text) = stage_at P.Count k.edition 0
stage_after k (count m) = stage_at P.Ticks k.edition m
stage_after k (tick t) = stage_at P.Ticks k.edition (k.left - 1)
stage_after k (refused r) = over_stage
stage_after k nothing = over_stage

-- What the end of the input says, after so many bytes with no byte 10: a line fails (SPEC 10.7), unless every tick was
-- read and nothing comes after the last (SPEC 10.8).
abbrev pub end_in : Phase → ℕ → ℕ → Says
end_in P.Edition left n = broken_by P.Edition
end_in P.Parameters left n = broken_by P.Parameters
end_in P.Rule left n = broken_by P.Rule
end_in P.Count left n = broken_by P.Count
end_in P.Ticks left n = cond (eqb left 0) (cond (eqb n 0) nothing (broken_by P.Ticks)) (broken_by P.Ticks)
end_in P.Over left n = broken_by P.Over

abbrev pub end_says : Stage → ℕ → Says
end_says k n = end_in k.phase k.left n
