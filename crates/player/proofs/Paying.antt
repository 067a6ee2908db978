-- A line prints no more bytes than it has with its line end, but for one refusal: so a buffer that is longer than the
-- input's by a refusal always has room. Assumes nothing.
use mathlib.Core.Path.{◌≡◌, refl, ap}
use mathlib.Core.Bool.{Bool, true, false, cond}
use mathlib.Core.List.{List, [], ◌∷◌, ◌++◌}
use Prim.Native.Nat.{ℕ, ◌+◌, ◌≤◌}
use native.Mathlib.Omega.{arith}
use lib.Dec.{ltb}
use lib.ListN.{length}
use Rattle.observers.specs.Demand.{Compiled}
use Rattle.flows.specs.Step.{Stepped}
use Rattle.cards.specs.Ticks.{tick_length}
use Rattle.cards.specs.Says.{Says, is_over, line_says, stage_after}
use Rattle.cards.specs.Says.Says.{edition, parameters, rule, count, tick, refused, nothing}
use Rattle.cards.specs.declared.Phase.{Phase}
use Rattle.cards.specs.declared.Phase.TheVariants as P
use Rattle.cards.specs.declared.Stage.{Stage}
use Rattle.cards.proofs.Stages.{Follows, says-follows}
use Rattle.player.specs.Card.{World, Effect, ended_by, with_rule, with_step, played_to, played, lined}
use Rattle.player.specs.Card.{velocities_in, rule_made, ruled_world, step_of, stepped_world}
use Rattle.player.specs.Card.{broken_bytes, longest_output}
use Rattle.player.specs.Output.{refusal_digits, output_bytes}
use Rattle.player.specs.declared.Output.{Output}
use Rattle.player.specs.declared.Output.TheVariants as O
use Rattle.std.specs.Prelude.{Ok, Err}
use Rattle.limits.specs.Refusal.{number}

-- What may have been printed beyond the bytes that were read: once the card is over, a refusal.
abbrev pub debt : Phase → ℕ
debt p = cond (is_over p) longest_output 0

debt-within : (b : Bool) → cond b longest_output 0 ≤ longest_output
debt-within true = omega arith
debt-within false = omega arith

pub debt-small : (p : Phase) → debt p ≤ longest_output
debt-small p = debt-within (is_over p)

no-debt : (p : Phase) → is_over p ≡ false → debt p ≡ 0
no-debt p e = ap (λ (b : Bool). cond b longest_output 0) e

-- No output is longer than a refusal.
digits-small : (r : ℕ) (t : Bool) → ltb r 10 ≡ t → length (refusal_digits r ++ (10 ∷ [])) ≤ 3
unfolding refusal_digits
digits-small r true e = rw e (omega arith)
digits-small r false e = rw e (omega arith)

pub output-small : (o : Output) → length (output_bytes o) ≤ longest_output
unfolding output_bytes
output-small O.Quiet = omega arith
output-small (O.Verdict v) = omega arith
output-small (O.Refused r) = omega (arith, digits-small (number r) (ltb (number r) 10) refl)

-- A line of n bytes in phase p does t: what it prints is paid by its bytes, its line end and the debt.
pub record Pays (p : Phase) (n : ℕ) (t : Effect) : Type 0 where
  pub paid : length (output_bytes t.output) + debt p ≤ n + 1 + debt t.world.watch.stage.phase

module _ (p : Phase) (n : ℕ) (e : is_over p ≡ false) where
  -- A card that ends pays its last refusal by the debt, and no output needs no pay.
  stop-pays : (o : Output) (w : World) → Pays p n (ended_by o w)
  stop-pays o w = record { paid = omega (arith, output-small o, no-debt p e) }

  quiet-pays : (w : World) → Pays p n (record { world = w; output = O.Quiet })
  unfolding output_bytes
  quiet-pays w = record { paid = omega (arith, no-debt p e) }

  rule-pays : (k : Stage) (r : Compiled) (w : World) → Pays p n (with_rule k r w)
  rule-pays k (Ok m) w = quiet-pays _
  rule-pays k (Err r) w = stop-pays (O.Refused r) w

  -- A verdict has 10 bytes, and the tick line that it is for has more.
  step-pays : (k : Stage) (r : Stepped) (w : World) → tick_length ≤ n → Pays p n (with_step k r w)
  unfolding output_bytes
  step-pays k (Ok v) w h = record { paid = omega (arith, h, no-debt p e) }
  step-pays k (Err r) w h = stop-pays (O.Refused r) w

over-pays : (n : ℕ) (w : World) → Pays P.Over n (ended_by O.Quiet w)
unfolding output_bytes
over-pays n w = record { paid = omega arith }

played-pays : (k : Stage) (p : Phase) (left n : ℕ) (s : Says) (w : World) → Follows p left n s
    → Pays p n (played_to k s w)
played-pays k p left n (edition e) w h = quiet-pays p n (ap is_over h) _
played-pays k p left n (parameters ps) w h = quiet-pays p n (ap is_over h) _
played-pays k p left n (rule text) w h =
    let r = rule_made w.context text w.table w.state in
    rule-pays p n (ap is_over h.0) k r.answer (ruled_world r w)
played-pays k p left n (count m) w h = quiet-pays p n (ap is_over h.0) _
played-pays k p left n (tick t) w h =
    let a = step_of t w in step-pays p n (ap is_over h.0) k a.answer (stepped_world a w) h.2
played-pays k p left n (refused r) w h = stop-pays p n h (O.Refused r) w
played-pays k p left n nothing w h = rw h (over-pays n w)

-- Every line pays.
pub lined-pays : (w : World) (l : List ℕ) → Pays w.watch.stage.phase (length l) (lined w l)
unfolding lined played
lined-pays w l =
    let k = w.watch.stage in
    let s = line_says (velocities_in w) k l in
    played-pays (stage_after k s) k.phase k.left (length l) s w (says-follows (velocities_in w) k l)

-- So does an over-long line that is not whole.
pub broken-room : (p : Phase) → length (broken_bytes p) + debt p ≤ longest_output
unfolding output_bytes refusal_digits
broken-room P.Edition = omega arith
broken-room P.Parameters = omega arith
broken-room P.Rule = omega arith
broken-room P.Count = omega arith
broken-room P.Ticks = omega arith
broken-room P.Over = omega arith
