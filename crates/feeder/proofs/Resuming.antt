-- How a card goes on: laws of `Goes` and `Short`, and of the world and the bytes left over after a piece
-- (specs/Feed.antt). Assumes nothing.
use mathlib.Core.Path.{◌≡◌, refl, ◌∙◌, sym, ap, subst}
use mathlib.Core.List.{List, [], ◌++◌, append_assoc}
use Prim.Native.Nat.{ℕ, suc, ◌+◌, ◌-◌, ◌≤◌, ◌<◌}
use native.Mathlib.Omega.{arith}
use lib.ListN.{length, drop}
use borrow.Author.Tests.{le-leb, lt-leb}
use Rattle.limits.specs.Limits.{line_limit}
use Rattle.lists.specs.Line.{line}
use Rattle.cards.specs.Says.{end_says}
use Rattle.cards.specs.declared.Phase.{Phase}
use Rattle.cards.proofs.Lines.{append-nil, cut-first, cut-one, cut-whole, first-long}
use Rattle.player.specs.Card.{World, over_world, lined, last_output, broken_bytes, owed, prints}
use Rattle.player.specs.Output.{output_bytes}
use Rattle.player.proofs.Printing.{over-prints, long-prints}
use Rattle.feeder.specs.Feed.{Goes, Short, after_lines, after_tail, fed_world, left_over, fed_to, tail_bytes, tail_fed}
use Rattle.feeder.specs.Feed.{tail_world}
use Rattle.feeder.proofs.Moving.{placed_none}

-- The end of the input.
pub ends : (w : World) (s : List ℕ) → Short s
    → prints w s ≡ output_bytes (last_output (end_says w.watch.stage (length s)))
unfolding prints owed
ends w s h = rw (cut-one s h.one)

-- ---- how a card goes on

-- With nothing done, nothing is printed.
pub goes_none : (w : World) (s : List ℕ) → Goes w s [] w s
goes_none w s = record { tells = λ more. refl }

-- A whole line prints its output.
pub goes-line : (w : World) (s : List ℕ) → length (line s) < length s
    → Goes w s (output_bytes (lined w (line s)).output) (lined w (line s)).world (drop (suc (length (line s))) s)
unfolding prints owed
goes-line w s h = record { tells = λ more. rw (cut-first s more h) }

-- One after the other.
pub goes_on_lem : {u v w : World} {r s t o p : List ℕ} → Goes u r o v s → Goes v s p w t → Goes u r (o ++ p) w t
goes_on_lem {o = o} {p = p} g h =
    record {
      tells = λ more.
          g.tells more ∙ ap (λ (l : List ℕ). o ++ l) (h.tells more) ∙ sym (append_assoc o p _);
    }

-- Equal bytes printed, and equal bytes left over.
pub goes-out : {w v : World} {s t o p : List ℕ} → o ≡ p → Goes w s p v t → Goes w s o v t
goes-out {v = v} {t = t} e g =
    record { tells = λ more. g.tells more ∙ ap (λ (l : List ℕ). l ++ prints v (t ++ more)) (sym e) }

pub goes-rest : {w v : World} {s t r o : List ℕ} → t ≡ r → Goes w s o v r → Goes w s o v t
goes-rest {v = v} {o = o} e g =
    record { tells = λ more. g.tells more ∙ ap (λ (l : List ℕ). o ++ prints v (l ++ more)) (sym e) }

-- An over-long line, whole or not, is broken, and nothing comes after.
pub goes-long : (w : World) (s : List ℕ) → line_limit ≤ length (line s)
    → Goes w s (broken_bytes w.watch.stage.phase) (over_world w) []
goes-long w s h =
    record {
      tells = λ more.
          long-prints w (s ++ more) (omega (arith, first-long s more))
          ∙ sym (rw (over-prints (over_world w) more refl) (append-nil _));
    }

-- ---- the world and what is left over

-- After a whole line,
pub fed-line : (w : World) (s : List ℕ) → length (line s) < length s
    → fed_world w s ≡ fed_world (lined w (line s)).world (drop (suc (length (line s))) s)
unfolding fed_world after_lines
fed-line w s h = rw (cut-whole s h)

pub left-line : (s : List ℕ) → length (line s) < length s → left_over s ≡ left_over (drop (suc (length (line s))) s)
unfolding left_over
left-line s h = rw (cut-whole s h)

-- after the start of a line,
pub fed-short : (w : World) (s : List ℕ) → Short s → w ≡ fed_world w s
unfolding fed_world after_lines after_tail
fed-short w s h = rw (cut-one s h.one, lt-leb line_limit (length s) h.below)

pub left-short : (s : List ℕ) → Short s → s ≡ left_over s
unfolding left_over
left-short s h = rw (cut-one s h.one, lt-leb line_limit (length s) h.below)

-- and after the start of an over-long line.
pub fed-long : (w : World) (s : List ℕ) → line s ≡ s → line_limit ≤ length s → over_world w ≡ fed_world w s
unfolding fed_world after_lines after_tail
fed-long w s e h = rw (cut-one s e, le-leb line_limit (length s) h)

pub left-long : (s : List ℕ) → line s ≡ s → line_limit ≤ length s → [] ≡ left_over s
unfolding left_over
left-long s e h = rw (cut-one s e, le-leb line_limit (length s) h)

-- ---- the start of a line at the end of a piece

-- It prints nothing where it is left over, and a refusal where it ends the card.
pub bytes-short : (p : Phase) (n : ℕ) → n < line_limit → tail_bytes p n ≡ []
unfolding tail_bytes
bytes-short p n h = rw (lt-leb line_limit n h)

pub bytes-long : (p : Phase) (n : ℕ) → line_limit ≤ n → tail_bytes p n ≡ broken_bytes p
unfolding tail_bytes
bytes-long p n h = rw (le-leb line_limit n h)

module _ (p : Phase) (used to at : ℕ) where
  pub tail-short : to - used < line_limit → tail_fed p used to at ≡ fed_to used at
  unfolding tail_fed
  tail-short h = rw (lt-leb line_limit (to - used) h)

  pub tail-long : line_limit ≤ to - used → tail_fed p used to at ≡ fed_to to (at + length (broken_bytes p))
  unfolding tail_fed
  tail-long h = rw (le-leb line_limit (to - used) h)

module _ (w : World) (n : ℕ) where
  pub world-short : n < line_limit → tail_world w n ≡ w
  unfolding tail_world
  world-short h = rw (lt-leb line_limit n h)

  pub world-long : line_limit ≤ n → tail_world w n ≡ over_world w
  unfolding tail_world
  world-long h = rw (le-leb line_limit n h)

-- What `feed_tail` makes of it.
pub ruleset tails = (
  tail-short,
  tail-long,
  world-short,
  world-long,
  bytes-short,
  bytes-long,
  placed_none,
)

-- ---- starts of lines

pub short-eq : {s t : List ℕ} → s ≡ t → Short t → Short s
short-eq {s} {t} e h = subst Short (sym e) h

pub short_none : Short []
unfolding line
short_none = record { one = refl; below = omega arith }
