-- What a line does, from what it says (`played`): what the code's answers make of it, over-long lines, lines once a
-- card is over, and tick lines whose step gives a verdict. Assumes nothing.
use mathlib.Core.Path.{◌≡◌, refl, ◌∙◌, sym, ap, ap₂}
use mathlib.Core.List.{List, []}
use Prim.Native.Nat.{ℕ, ◌-◌, ◌≤◌, ◌<◌}
use native.Mathlib.Omega.{arith}
use lib.ListN.{length, take, drop}
use lib.Seq.{drop-drop}
use borrow.Author.Tests.{ne_eqb, lt-leb}
use Rattle.limits.specs.Limits.{standard_cap, line_limit}
use Rattle.limits.specs.Context.{standard_context}
use Rattle.limits.specs.declared.Context.{Context}
use Rattle.limits.specs.declared.Refusal.{Refusal}
use Rattle.words.proofs.Bounds.{standard-ranged}
use Rattle.traces.specs.Trace.{tick_of}
use Rattle.lists.specs.Line.{line, line_from}
use Rattle.lists.proofs.Lines.{take-line}
use Rattle.cards.specs.Heads.{rule_head, after_head}
use Rattle.cards.specs.Says.{Says, says_by, broken_by, line_says, stage_at, stage_after}
use Rattle.cards.specs.Says.Says.{rule, refused}
use Rattle.cards.specs.Ticks.{tick_line}
use Rattle.cards.specs.declared.Content.{Content}
use Rattle.cards.specs.declared.Content.TheVariants as C
use Rattle.cards.specs.declared.Phase.{Phase}
use Rattle.cards.specs.declared.Phase.TheVariants as P
use Rattle.cards.specs.declared.Stage.{Stage}
use Rattle.cards.specs.declared.TickLine.{TickLine}
use Rattle.cards.proofs.Lines.{drop-line}
use Rattle.cards.proofs.Stages.{says-follows, long-says, over-says}
use Rattle.cards.proofs.Ticks.{ticked}
use Rattle.flows.specs.Step.{Stepped, AfterStep, stepped}
use Rattle.observers.specs.Demand.{Compiled}
use Rattle.reader.specs.Part.{rule_from}
use Rattle.player.specs.Card.{World, world_in, velocities_in, SameArrays, watch_of, Effect, effect_of, moved_on}
use Rattle.player.specs.Card.{ended_by, AfterRule, after_rule, rule_made, rule_effect, with_step, stepped_world}
use Rattle.player.specs.Card.{step_of, played_to, played, lined, WholeLine, last_output}
use Rattle.player.specs.declared.Output.{Output}
use Rattle.player.specs.declared.Output.TheVariants as O
use Rattle.player.specs.declared.Player.{Player}
use Rattle.player.specs.declared.Watch.{Watch}
use Rattle.std.specs.Prelude.{Some, Result, Ok, Err}

-- The program's context has a velocity.
pub some-velocity : 0 < standard_context.velocities
some-velocity = standard-ranged.some

-- A line that says s, with the stage k after it.
pub plays : (w : World) (l : List ℕ) (s : Says) (k : Stage) → s ≡ line_says (velocities_in w) w.watch.stage l
    → k ≡ stage_after w.watch.stage s → played_to k s w ≡ lined w l
unfolding lined played
plays w l s k e f = rw (f, e)

-- The arrays stay the same ones from one player to a later one.
pub arrays-on : {a b c : Player} → SameArrays a b → SameArrays b c → SameArrays a c
arrays-on f g =
    record {
      table = g.table ∙ f.table;
      state = g.state ∙ f.state;
      values = g.values ∙ f.values;
      table_length = g.table_length ∙ f.table_length;
      state_length = g.state_length ∙ f.state_length;
      values_length = g.values_length ∙ f.values_length;
    }

-- ---- what the code's answer makes of a line

-- What a line that ends the card prints, where the code's answer says s, whatever the line.
pub said-last : (r : Result Content Refusal) {o : Output} (s : Says) → ((l : List ℕ) → o ≡ last_output (says_by r l))
    → ((l : List ℕ) → says_by r l ≡ s) → o ≡ last_output s
said-last r s p q = p [] ∙ ap last_output (q [])

-- The rule text is the part of the bytes that the card reader gives.
rule-long : (velocities : ℕ) (k : Stage) (l text : List ℕ) → rule text ≡ line_says velocities k l
    → length rule_head ≤ length l
rule-long velocities k l text e = (rw (sym e) at (says-follows velocities k l)).1

pub text_at : (velocities : ℕ) (k : Stage) (s : List ℕ) (at : ℕ)
    → rule (after_head rule_head (line_from s at)) ≡ line_says velocities k (line_from s at)
    → rule_from s at ≡ after_head rule_head (line_from s at)
text_at velocities k s at e =
    ap line (sym (drop-drop (length rule_head) at s))
    ∙ sym (drop-line (length rule_head) (drop at s) (rule-long velocities k (line_from s at) _ e))

-- The line at a place of the bytes s is read, and r is the code's answer.
module _ (w : World) {s : List ℕ} {at to : ℕ} (whole : WholeLine s at to) (r : Result Content Refusal)
    (said : says_by r (take (to - at) (drop at s))
    ≡ line_says (velocities_in w) w.watch.stage (take (to - at) (drop at s))) where
  abbrev here : List ℕ
  here = line_from s at

  -- The part that is read is the line,
  is-line : take (to - at) (drop at s) ≡ here
  is-line =
      let e : to - at ≡ length here = omega (arith, whole.ends) in
      ap (λ (n : ℕ). take n (drop at s)) e ∙ take-line (drop at s)

  -- so the answer says what the line says.
  says : says_by r here ≡ line_says (velocities_in w) w.watch.stage here
  says = rw is-line at said

  -- A refusal ends the card;
  pub refused-ends : {e : Refusal} → r ≡ Err e → ended_by (O.Refused e) w ≡ lined w here
  refused-ends q = plays w here (refused _) _ (rw q at says) refl

  -- what is said by y else is played, k being the stage after it;
  pub said-ends : {x y : Content} {k : Stage} → r ≡ Ok x
      → ((l : List ℕ) → k ≡ stage_after w.watch.stage (says_by (Ok x) l)) → x ≡ y
      → played_to k (says_by (Ok y) here) w ≡ lined w here
  said-ends {y = y} {k} q next e =
      plays w here (says_by (Ok y) here) k (rw (q, e) at says)
      (next here ∙ ap (λ (z : Content). stage_after w.watch.stage (says_by (Ok z) here)) e)

  pub nothing-ends : {x : Content} {k : Stage} → r ≡ Ok x
      → ((l : List ℕ) → k ≡ stage_after w.watch.stage (says_by (Ok x) l)) → x ≡ C.Nothing
      → moved_on (watch_of k 0) O.Quiet w ≡ lined w here
  nothing-ends {k = k} q next e =
      ap (λ (j : Stage). moved_on (watch_of j 0) O.Quiet w)
      (next here ∙ ap (λ (z : Content). stage_after w.watch.stage (says_by (Ok z) here)) e)
      ∙ said-ends q next e

  -- a rule, with this answer and this table and state after it;
  pub rule-ends : {x : Content} {k : Stage} {a b : Compiled} {t c : List ℕ} → r ≡ Ok x
      → ((l : List ℕ) → k ≡ stage_after w.watch.stage (says_by (Ok x) l)) → x ≡ C.Rule
      → after_rule a t c ≡ rule_made w.context (rule_from s at) w.table w.state → a ≡ b
      → rule_effect k (after_rule b t c) w ≡ lined w here
  rule-ends {k = k} {t = t} {c} q next e made is =
      let text = text_at (velocities_in w) w.watch.stage s at (rw (q, e) at says) in
      ap (λ (y : AfterRule). rule_effect k y w)
      (ap (λ (y : Compiled). after_rule y t c) (sym is)
      ∙ made
      ∙ ap (λ (l : List ℕ). rule_made w.context l w.table w.state) text)
      ∙ said-ends q next e

  -- a tick, whose step answers so and leaves the world so.
  pub tick-ends : {x : Content} {t : TickLine} {k : Stage} {a b : Stepped} {w' : World} → r ≡ Ok x
      → ((l : List ℕ) → k ≡ stage_after w.watch.stage (says_by (Ok x) l)) → x ≡ C.Tick t
      → a ≡ (step_of t w).answer → w' ≡ stepped_world (step_of t w) w → a ≡ b
      → with_step k b w' ≡ lined w here
  tick-ends {t = t} {k} q next e answers leaves is =
      ap₂ (λ (y : Stepped) (v : World). with_step k y v) (sym is ∙ answers) leaves ∙ said-ends q next e

-- An over-long line is broken,
played-broken : (p : Phase) (w : World) → played w (broken_by p) ≡ ended_by (last_output (broken_by p)) w
unfolding played
played-broken P.Edition w = refl
played-broken P.Parameters w = refl
played-broken P.Rule w = refl
played-broken P.Count w = refl
played-broken P.Ticks w = refl
played-broken P.Over w = refl

pub long-lined : (w : World) (l : List ℕ) → line_limit ≤ length l
    → lined w l ≡ ended_by (last_output (broken_by w.watch.stage.phase)) w
unfolding lined
long-lined w l h =
    ap (played w) (long-says (velocities_in w) w.watch.stage l h) ∙ played-broken w.watch.stage.phase w

-- and a line does nothing once the card is over.
pub over-lined : (w : World) (l : List ℕ) → w.watch.stage.phase ≡ P.Over → lined w l ≡ ended_by O.Quiet w
unfolding lined played
over-lined w l e = rw (over-says (velocities_in w) w.watch.stage l e)

-- ---- a tick line whose step gives a verdict

-- One tick less is left after it.
abbrev pub one_less : Watch → Watch
one_less w = watch_of (stage_at w.stage.phase w.stage.edition (w.stage.left - 1)) w.n

module _ (context : Context) (ps t : List ℕ) where
  -- After a line that says a verdict.
  abbrev pub saying : Watch → ℕ → List ℕ → List ℕ → Effect
  saying w x c v = effect_of (O.Verdict x) (world_in context w ps t c v)

  pub tick-lined : (w : Watch) (l : List ℕ) (k : TickLine) (x : ℕ) (c v : List ℕ) (a : AfterStep)
      → w.stage.phase ≡ P.Ticks → 0 < w.stage.left → tick_line context.velocities w.stage.edition l ≡ Some k
      → stepped standard_cap context.velocities t w.n c v (tick_of k.start k.signals k.velocity ps) ≡ a
      → a.answer ≡ Ok x → lined (world_in context w ps t c v) l ≡ saying (one_less w) x a.state a.values
  unfolding lined played line_says
  tick-lined w l k x c v a p more e q y =
      let short : length l < line_limit = (ticked context.velocities w.stage.edition l e).short in
      rw (lt-leb line_limit (length l) short, p, ne_eqb w.stage.left 0 (λ z. omega arith), e, q, y)
