-- What handing over a piece of a card does, whatever comes after it (SPEC 11.2). Definitions only.
use Rattle.std.specs.Prelude.{cond, List, [], ◌∷◌, ◌++◌, ◌≡◌, ℕ, ◌+◌, ◌-◌, ◌≤◌, ◌<◌, leb, length, take, drop}
use Rattle.limits.specs.Limits.{standard_cap, line_limit}
use Rattle.flows.specs.Step.{step_checked}
use Rattle.lists.specs.Line.{line}
use Rattle.cards.specs.Lines.{over_long, cut}
use Rattle.cards.specs.Place.{tick_first}
use Rattle.cards.specs.declared.Phase.{Phase}
use Rattle.cards.specs.declared.Phase.TheVariants as P
use Rattle.player.specs.Card.{World, world_of, velocities_in, over_world, lined, broken_bytes, prints}
use Rattle.player.specs.Card.{longest_output}
use Rattle.traces.specs.Trace.{tick_of}
use Rattle.feeder.specs.declared.Fed.{Fed}
use Rattle.feeder.specs.declared.Turn.{Turn}
use Rattle.player.specs.declared.Watch.{Watch}
use Rattle.std.specs.Prelude.{None, Ok}

-- From w with the bytes s at hand: out is printed, and w' goes on with the bytes s', whatever comes after them.
pub record Goes (w : World) (s : List ℕ) (out : List ℕ) (w' : World) (s' : List ℕ) : Type 0 where
  pub tells : (more : List ℕ) → prints w (s ++ more) ≡ out ++ prints w' (s' ++ more)

-- The start of a line, with no line end and shorter than an over-long line.
pub record Short (s : List ℕ) : Type 0 where
  pub one : line s ≡ s
  pub below : length s < line_limit

-- The output has room: a line prints no more bytes than it has, but for one refusal.
pub record Room (s out : List ℕ) : Type 0 where
  pub room : length s + longest_output ≤ length out

-- The world after these lines,
unfoldable pub after_lines : World → List (List ℕ) → World
after_lines w [] = w
after_lines w (l ∷ ls) = after_lines (lined w l).world ls

-- and after the start of another one: it ends the card where it is over-long already.
unfoldable pub after_tail : World → List ℕ → World
after_tail w t = cond (over_long t) (over_world w) w

-- The world after a piece of a card,
unfoldable pub fed_world : World → List ℕ → World
fed_world w s = after_tail (after_lines w (cut s).whole) (cut s).tail

-- and what is left over of the piece: the start of a line that is not over-long.
unfoldable pub left_over : List ℕ → List ℕ
left_over s = cond (over_long (cut s).tail) [] (cut s).tail

-- What a start of n bytes prints: a refusal where it ends the card.
unfoldable pub tail_bytes : Phase → ℕ → List ℕ
tail_bytes p n = cond (leb line_limit n) (broken_bytes p) []

-- No tick line that could be run is left at the front of these bytes.
abbrev pub Stops : World → List ℕ → Type 0
Stops w s = 0 < w.watch.stage.left → tick_first (velocities_in w) w.watch.stage.edition s ≡ None

-- The ticks come next, and a step with these parameters has no refusal, whatever its start, signals and velocity.
pub record Admitted (w : World) : Type 0 where
  pub phase : w.watch.stage.phase ≡ P.Ticks
  pub passes : (start signals velocity : ℕ) → velocity < velocities_in w
      → step_checked standard_cap (velocities_in w) w.table w.watch.n w.state w.values
      (tick_of start signals velocity w.parameters) ≡ Ok tt

abbrev pub fed_to : ℕ → ℕ → Fed
fed_to used filled = record { used = used; filled = filled }

-- After the end of a piece, from the place `used` up to `to`, with so many bytes filled before it: it is left over, or
-- ends the card.
unfoldable pub tail_fed : Phase → ℕ → ℕ → ℕ → Fed
tail_fed p used to at =
    cond (leb line_limit (to - used)) (fed_to to (at + length (broken_bytes p))) (fed_to used at)

-- The world after it, where it has n bytes.
unfoldable pub tail_world : World → ℕ → World
tail_world w n = cond (leb line_limit n) (over_world w) w

-- Of the piece s some lines are used up, and what they print stands at the front of out: no more bytes than they
-- have. From there w' goes on in the same phase, and all else of out is kept.
pub record Runs (w : World) (s : List ℕ) (r : Fed) (w' : World) (old out : List ℕ) : Type 0 where
  pub goes : Goes w s (take r.filled out) w' (drop r.used s)
  pub world : fed_world w s ≡ fed_world w' (drop r.used s)
  pub rest : left_over s ≡ left_over (drop r.used s)
  pub used : r.used ≤ length s
  pub paid : r.filled ≤ r.used
  pub phase : w.watch.stage.phase ≡ w'.watch.stage.phase
  pub kept : drop r.filled out ≡ drop r.filled old

-- Of the piece s some bytes are used up and some are left over; what the used ones print stands at the front of out,
-- and all else of out is kept.
pub record Feeds (w : World) (s : List ℕ) (r : Fed) (w' : World) (old out : List ℕ) : Type 0 where
  pub goes : Goes w s (take r.filled out) w' (drop r.used s)
  pub world : w' ≡ fed_world w s
  pub rest : drop r.used s ≡ left_over s
  pub used : r.used ≤ length s
  pub short : Short (drop r.used s)
  pub kept : drop r.filled out ≡ drop r.filled old
  pub room : r.filled ≤ length out

-- The bytes from `from` up to `to` are moved to the front, all else is kept.
abbrev pub shifted : List ℕ → ℕ → ℕ → List ℕ
shifted buf from to = take (to - from) (drop from buf) ++ drop (to - from) buf

-- The same as `Feeds` where the piece are the first bytes of a buffer: what is left over is moved to its front, and
-- kept there.
pub record Turns (w : World) (buf : List ℕ) (to : ℕ) (r : Turn) (w' : World) (buf' old out : List ℕ) : Type 0 where
  pub goes : Goes w (take to buf) (take r.filled out) w' (take r.rest buf')
  pub world : w' ≡ fed_world w (take to buf)
  pub rest : take r.rest buf' ≡ left_over (take to buf)
  pub buffer : buf' ≡ shifted buf (to - r.rest) to
  pub within : r.rest ≤ to
  pub short : Short (take r.rest buf')
  pub kept : drop r.filled out ≡ drop r.filled old
  pub room : r.filled ≤ length out

-- The bytes s stand at a place of out, all else is kept.
abbrev pub placed : List ℕ → ℕ → List ℕ → List ℕ
placed out at s = take at out ++ s ++ drop (at + length s) out

-- The end of the input, after the bytes s: this is printed, whatever the lent arrays hold, and all else of out is
-- kept.
pub record Finishes (w : Watch) (s : List ℕ) (r : ℕ) (old out : List ℕ) : Type 0 where
  pub tells : (ps t c v : List ℕ) → prints (world_of w ps t c v) s ≡ take r out
  pub kept : drop r out ≡ drop r old
  pub room : r ≤ length out

-- Between two turns: the first `to` bytes of buf are the start of a line, there is room to read on, and to print.
pub record Ready (buf : List ℕ) (to : ℕ) (out : List ℕ) : Type 0 where
  pub short : Short (take to buf)
  pub within : to ≤ length buf
  pub size : line_limit ≤ length buf
  pub room : length buf + longest_output ≤ length out
