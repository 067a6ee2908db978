-- What follows what: in which stage a line says what it says (`Follows`), a card that is over stays so, and the lines
-- that may still come grow fewer with each line (`rank`). Assumes nothing.
use mathlib.Core.Path.{◌≡◌, refl, ◌∙◌, sym, ap}
use mathlib.Core.Bool.{Bool, true, false, cond, false≢true}
use mathlib.Core.List.{List}
use Prim.Native.Nat.{ℕ, ◌+◌, ◌≤◌, ◌<◌}
use native.Mathlib.Omega.{arith}
use lib.Dec.{eqb}
use lib.ListN.{length}
use borrow.Author.Tests.{eqb-false, ne_eqb, le-leb, leb-false}
use Rattle.std.specs.Prelude.{Option, Some, None}
use Rattle.limits.specs.Limits.{literal_count, last_literal, line_limit}
use Rattle.cards.specs.Heads.{rule_head, after_head}
use Rattle.cards.specs.Numbers.{has_prefix, parameters_of, count_of}
use Rattle.cards.specs.Ticks.{tick_length, tick_line}
use Rattle.cards.specs.Lines.{over_long}
use Rattle.cards.specs.Heads.{head_refusal, tick_refusal}
use Rattle.cards.specs.Says.{Says, stage_at, is_over, broken_by, edition_of, edition_says, parameters_say, count_says}
use Rattle.cards.specs.Says.{tick_says, says_in, line_says, stage_after, end_in, end_says}
use Rattle.cards.specs.Says.Says.{edition, parameters, rule, count, tick, refused, nothing}
use Rattle.cards.specs.declared.Phase.{Phase}
use Rattle.cards.specs.declared.Phase.TheVariants as P
use Rattle.cards.specs.declared.Stage.{Stage}
use Rattle.cards.specs.declared.TickLine.{TickLine}
use Rattle.cards.proofs.Numbers.{prefix-long}
use Rattle.cards.proofs.Sized.{CountLow, count_low}
use Rattle.cards.proofs.Ticks.{ticked, ticked-long}

-- ---- in which stage a line says what it says

-- A line of n bytes says so in phase p, where so many ticks are left.
abbrev pub Follows : Phase → ℕ → ℕ → Says → Type 0
Follows p left n (edition e) = p ≡ P.Edition
Follows p left n (parameters ps) = p ≡ P.Parameters
Follows p left n (rule text) = (p ≡ P.Rule) × (length rule_head ≤ n)
Follows p left n (count k) = (p ≡ P.Count) × (k < literal_count)
Follows p left n (tick t) = (p ≡ P.Ticks) × (0 < left) × (tick_length ≤ n)
Follows p left n (refused r) = is_over p ≡ false
Follows p left n nothing = p ≡ P.Over

broken-follows : (p : Phase) (left n : ℕ) → Follows p left n (broken_by p)
broken-follows P.Edition left n = refl
broken-follows P.Parameters left n = refl
broken-follows P.Rule left n = refl
broken-follows P.Count left n = refl
broken-follows P.Ticks left n = refl
broken-follows P.Over left n = refl

edition-follows : (e : Option ℕ) (left n : ℕ) → Follows P.Edition left n (edition_says e)
edition-follows (Some e) left n = refl
edition-follows None left n = refl

parameters-follow : (l : Option (List ℕ)) (left n : ℕ) → Follows P.Parameters left n (parameters_say l)
parameters-follow (Some ps) left n = refl
parameters-follow None left n = refl

rule-follows : (l : List ℕ) (left : ℕ) (b : Bool) → has_prefix rule_head l ≡ b
    → Follows P.Rule left (length l) (cond b (rule (after_head rule_head l)) (refused head_refusal))
rule-follows l left true e = (refl, prefix-long rule_head l e)
rule-follows l left false e = refl

count-follows : (k : Option ℕ) (left n : ℕ) → CountLow last_literal k → Follows P.Count left n (count_says k)
count-follows (Some k) left n h = (refl, omega arith)
count-follows None left n h = refl

module _ (velocities : ℕ) where
  tick-follows : (l : List ℕ) (e left : ℕ) (k : Option TickLine) (b : Bool) → tick_line velocities e l ≡ k
      → eqb left 0 ≡ b → Follows P.Ticks left (length l) (cond b (refused tick_refusal) (tick_says k))
  tick-follows l e left k true q h = refl
  tick-follows l e left (Some k) false q h =
      (refl, omega (arith, eqb-false left 0 h), ticked-long (ticked velocities e l q))
  tick-follows l e left None false q h = refl

  in-follows : (p : Phase) (e left : ℕ) (l : List ℕ) → Follows p left (length l) (says_in velocities p e left l)
  in-follows P.Edition e left l = edition-follows (edition_of l) left (length l)
  in-follows P.Parameters e left l = parameters-follow (parameters_of l) left (length l)
  in-follows P.Rule e left l = rule-follows l left (has_prefix rule_head l) refl
  in-follows P.Count e left l = count-follows (count_of l) left (length l) (count_low l)
  in-follows P.Ticks e left l = tick-follows l e left (tick_line velocities e l) (eqb left 0) refl refl
  in-follows P.Over e left l = refl

  says-split : (k : Stage) (l : List ℕ) (t : Bool) → over_long l ≡ t
      → Follows k.phase k.left (length l) (line_says velocities k l)
  unfolding line_says
  says-split k l true q = rw q (broken-follows k.phase k.left (length l))
  says-split k l false q = rw q (in-follows k.phase k.edition k.left l)

  pub says-follows : (k : Stage) (l : List ℕ) → Follows k.phase k.left (length l) (line_says velocities k l)
  says-follows k l = says-split k l (over_long l) refl

-- ---- over-long lines, and a card that is over

module _ (velocities : ℕ) (k : Stage) (l : List ℕ) where
  pub long-says : line_limit ≤ length l → line_says velocities k l ≡ broken_by k.phase
  unfolding line_says
  long-says h = rw (le-leb line_limit (length l) h)

  over-split : (t : Bool) → over_long l ≡ t → k.phase ≡ P.Over → line_says velocities k l ≡ nothing
  unfolding line_says
  over-split true h e = rw h (ap broken_by e)
  over-split false h e = rw h (ap (λ (p : Phase). says_in velocities p k.edition k.left l) e)

  pub over-says : k.phase ≡ P.Over → line_says velocities k l ≡ nothing
  over-says e = over-split (over_long l) refl e

pub is-over : (p : Phase) → is_over p ≡ true → p ≡ P.Over
is-over P.Edition e = absurd (false≢true e)
is-over P.Parameters e = absurd (false≢true e)
is-over P.Rule e = absurd (false≢true e)
is-over P.Count e = absurd (false≢true e)
is-over P.Ticks e = absurd (false≢true e)
is-over P.Over e = refl

-- After a byte with no line end, the end of the input is a broken line.
end-in : (p : Phase) (left n : ℕ) → 0 < n → end_in p left n ≡ broken_by p
end-in P.Edition left n h = refl
end-in P.Parameters left n h = refl
end-in P.Rule left n h = refl
end-in P.Count left n h = refl
end-in P.Over left n h = refl
end-in P.Ticks left n h = split (eqb left 0) refl
  where
    split : (t : Bool) → eqb left 0 ≡ t → end_in P.Ticks left n ≡ broken_by P.Ticks
    split true e = rw (e, ne_eqb n 0 (λ z. omega arith))
    split false e = rw e

pub end-broken : (k : Stage) (n : ℕ) → 0 < n → end_says k n ≡ broken_by k.phase
end-broken k n h = end-in k.phase k.left n h

-- ---- the lines that may still come

-- How many lines may still come, with the one that ends the card: the ticks are fewer than 1,000,000.
abbrev rank_in : Phase → ℕ → ℕ
rank_in P.Edition left = literal_count + 4
rank_in P.Parameters left = literal_count + 3
rank_in P.Rule left = literal_count + 2
rank_in P.Count left = literal_count + 1
rank_in P.Ticks left = left + 1
rank_in P.Over left = 0

unfoldable pub rank : Stage → ℕ
rank k = rank_in k.phase k.left

pub rank-first : (e left : ℕ) → rank (stage_at P.Edition e left) ≡ literal_count + 4
unfolding rank
rank-first e left = refl

-- Where the card is not over, a line more may come.
in-positive : (p : Phase) (left : ℕ) → is_over p ≡ false → 0 < rank_in p left
in-positive P.Edition left e = omega arith
in-positive P.Parameters left e = omega arith
in-positive P.Rule left e = omega arith
in-positive P.Count left e = omega arith
in-positive P.Ticks left e = omega arith
in-positive P.Over left e = absurd (false≢true (sym e))

pub rank-positive : (k : Stage) → is_over k.phase ≡ false → 0 < rank k
unfolding rank
rank-positive k e = in-positive k.phase k.left e

-- A line leaves fewer, unless the card is over after it.
fewer-in : (k : Stage) (n : ℕ) (s : Says) → Follows k.phase k.left n s
    → is_over (stage_after k s).phase ≡ false → rank (stage_after k s) + 1 ≤ rank k
unfolding rank
fewer-in k n (edition e) h o = rw h (omega arith)
fewer-in k n (parameters ps) h o = rw h (omega arith)
fewer-in k n (rule text) h o = rw h.0 (omega arith)
fewer-in k n (count m) h o = rw h.0 (omega (arith, h.1))
fewer-in k n (tick t) h o = rw h.0 (omega (arith, h.1))
fewer-in k n (refused r) h o = absurd (false≢true (sym o))
fewer-in k n nothing h o = absurd (false≢true (sym o))

long-over : (k : Stage) (p : Phase) → is_over (stage_after k (broken_by p)).phase ≡ true
long-over k P.Edition = refl
long-over k P.Parameters = refl
long-over k P.Rule = refl
long-over k P.Count = refl
long-over k P.Ticks = refl
long-over k P.Over = refl

-- A line after which the card is not over is not over-long, and fewer lines may come after it.
pub record Near (velocities : ℕ) (k : Stage) (l : List ℕ) : Type 0 where
  pub short : length l < line_limit
  pub fewer : rank (stage_after k (line_says velocities k l)) + 1 ≤ rank k

module _ (velocities : ℕ) (k : Stage) (l : List ℕ) where
  near-split : (t : Bool) → over_long l ≡ t → is_over (stage_after k (line_says velocities k l)).phase ≡ false
      → Near velocities k l
  unfolding line_says
  near-split true e o = absurd (false≢true (sym (rw e at o) ∙ long-over k k.phase))
  near-split false e o =
      record {
        short = leb-false line_limit (length l) e;
        fewer = fewer-in k (length l) (line_says velocities k l) (says-follows velocities k l) o;
      }

  pub near : is_over (stage_after k (line_says velocities k l)).phase ≡ false → Near velocities k l
  near o = near-split (over_long l) refl o
