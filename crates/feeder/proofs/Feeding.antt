-- The feeder's loop, in terms of lists: what stands between two lines of a piece, and what a line makes of it.
-- Assumes nothing.
use mathlib.Core.Path.{◌≡◌, refl, ◌∙◌, sym, ap}
use mathlib.Core.Bool.{Bool, true, false}
use mathlib.Core.List.{List, [], ◌++◌}
use Prim.Native.Nat.{ℕ, suc, ◌+◌, ◌-◌, ◌≤◌, ◌<◌}
use native.Mathlib.Omega.{arith}
use lib.Dec.{leb}
use lib.ListN.{length, take, drop, length-append, length-drop, drop_of_length-le}
use lib.Seq.{drop-drop, length-take-le, take-add, take_at, drop_at, paste-zero}
use borrow.Author.Tests.{leb-true, leb-false}
use Rattle.limits.specs.Limits.{line_limit}
use Rattle.lists.specs.Line.{line, line_from}
use Rattle.cards.specs.declared.Phase.{Phase}
use Rattle.lists.proofs.Lines.{line-short}
use Rattle.cards.proofs.Lines.{one_line}
use Rattle.player.specs.Card.{WholeLine, World, over_world, Effect, lined}
use Rattle.player.specs.Card.{broken_bytes, longest_output}
use Rattle.player.specs.Output.{output_bytes}
use Rattle.feeder.specs.Feed.{Goes, Short, Room, fed_to, Runs, Feeds, fed_world, left_over, placed}
use Rattle.feeder.specs.Feed.{tail_bytes, tail_fed, tail_world}
use Rattle.feeder.specs.declared.Fed.{Fed}
use Rattle.feeder.proofs.Moving.{put-takes, put_keeps, put-length, rest_of, with_rest, rest_all, with_rest_lem}
use Rattle.player.proofs.Paying.{debt, debt-small, lined-pays, broken-room}
use Rattle.feeder.proofs.Resuming.{goes_none, goes-line, goes_on_lem, goes-out, goes-rest, goes-long}
use Rattle.feeder.proofs.Resuming.{fed-line, left-line, fed-short, left-short, fed-long, left-long}
use Rattle.feeder.proofs.Resuming.{bytes-short, tail-short, world-short, bytes-long, tail-long, world-long}
use Rattle.feeder.proofs.Resuming.{short-eq, short_none}

-- Of the piece b, u bytes are used up, and what they print are the first `at` bytes of out: w goes on from there.
pub record Between (w₀ : World) (b out₀ : List ℕ) (w : World) (out : List ℕ) (u at : ℕ) : Type 0 where
  pub goes : Goes w₀ b (take at out) w (drop u b)
  pub world : fed_world w₀ b ≡ fed_world w (drop u b)
  pub rest : left_over b ≡ left_over (drop u b)
  pub within : u ≤ length b
  pub paid : at ≤ u + debt w.watch.stage.phase
  pub room : length b + longest_output ≤ length out₀
  pub kept : drop at out ≡ drop at out₀
  pub same : length out ≡ length out₀

pub begun : (w : World) (b out : List ℕ) → Room b out → Between w b out w out 0 0
begun w b out r =
    record {
      goes = goes_none w b;
      world = refl;
      rest = refl;
      within = omega arith;
      paid = omega arith;
      room = r.room;
      kept = refl;
      same = refl;
    }

module _ {w₀ w : World} {b out₀ out : List ℕ} {u at : ℕ} (k : Between w₀ b out₀ w out u at) where
  pub written-room : at ≤ length out
  written-room = omega (arith, k.within, k.paid, k.room, k.same, debt-small w.watch.stage.phase)

  -- The bytes that are left are the start of a line: they are left over.
  left-short-over : Short (drop u b) → Feeds w₀ b (fed_to u at) w out₀ out
  left-short-over h =
      record {
        goes = k.goes;
        world = fed-short w (drop u b) h ∙ sym k.world;
        rest = left-short (drop u b) h ∙ sym k.rest;
        used = k.within;
        short = h;
        kept = k.kept;
        room = written-room;
      }

  -- Bytes s are put to out.
  module _
      (s : List ℕ) (room : at + length s ≤ length out) {out' : List ℕ} {at' : ℕ}
      (e : at' ≡ at + length s) (p : out' ≡ placed out at s) where
    keeps : drop at' out' ≡ drop at' out₀
    keeps =
        put_keeps out s at e p room
        ∙ rw e
        (sym (drop-drop (length s) at out)
        ∙ ap (λ (l : List ℕ). drop (length s) l) k.kept
        ∙ drop-drop (length s) at out₀)

  -- Lines that are run where the bytes and out are lent from here on.
  module _
      {r : Fed} {w' : World} {part : List ℕ} (g : Runs w (rest_of b u) r w' (rest_of out at) part)
      (l : length part ≡ length (rest_of out at)) where
    ran : Runs w (drop u b) r w' (drop at out) part
    ran = rw (rest_all b u, rest_all out at) at g

    front : length (take at out) ≡ at
    front = length-take-le at out written-room

    takes : take (at + r.filled) (with_rest out at part) ≡ take at out ++ take r.filled part
    takes =
        take-add at r.filled (with_rest out at part)
        ∙ rw (with_rest_lem out at part, take_at (take at out) part at front, drop_at (take at out) part at front)

    drops : drop (at + r.filled) (with_rest out at part) ≡ drop r.filled part
    drops =
        sym (drop-drop r.filled at (with_rest out at part))
        ∙ rw (with_rest_lem out at part, drop_at (take at out) part at front)

    pub ran_on : Between w₀ b out₀ w' (with_rest out at part) (u + r.used) (at + r.filled)
    ran_on =
        let rest : drop r.used (drop u b) ≡ drop (u + r.used) b = drop-drop r.used u b in
        record {
          goes = goes-rest (sym rest) (goes-out takes (goes_on_lem k.goes ran.goes));
          world = k.world ∙ ran.world ∙ ap (fed_world w') rest;
          rest = k.rest ∙ ran.rest ∙ ap left_over rest;
          within = omega (arith, k.within, ran.used, length-drop u b);
          paid = omega (arith, k.paid, ran.paid, ap debt ran.phase);
          room = k.room;
          kept =
              drops
              ∙ ran.kept
              ∙ ap (λ (m : List ℕ). drop r.filled m) k.kept
              ∙ drop-drop r.filled at out₀;
          same =
              let whole = ap length (with_rest_lem out at part) ∙ length-append (take at out) part in
              omega (arith, whole, front, l, ap length (rest_all out at), length-drop at out, written-room, k.same);
        }

  -- The line at u has n bytes.
  module _ (n : ℕ) (m : n ≡ length (line_from b u)) where
    pub line-inside : u + n ≤ length b
    line-inside = omega (arith, k.within, m, line-short (drop u b), length-drop u b)

    -- It ends before the end of the piece, with its line end,
    module _ (apart : u + n ≡ length b → ⊥) where
      pub line-ends : u + n < length b
      line-ends = omega (arith, line-inside)

      pub whole-line : WholeLine b u (u + n)
      whole-line = record { ends = ap (λ (i : ℕ). u + i) m; whole = line-ends }

      -- and the bytes after it are those after its line end.
      whole : length (line (drop u b)) < length (drop u b)
      whole = omega (arith, line-ends, m, length-drop u b)

      rest-after : drop (u + n + 1) b ≡ drop (suc (length (line (drop u b)))) (drop u b)
      rest-after =
          let l = length (line (drop u b)) in
          let z : u + suc l ≡ u + n + 1 = omega arith in
          sym (drop-drop (suc l) u b ∙ ap (λ (i : ℕ). drop i b) z)

      -- t is what it does.
      module _ {t : Effect} (q : t ≡ lined w (line_from b u)) where
        goes-past : Goes w₀ b (take at out ++ output_bytes t.output) t.world (drop (u + n + 1) b)
        goes-past = rw (q, rest-after) (goes_on_lem k.goes (goes-line w (drop u b) whole))

        world-past : fed_world w₀ b ≡ fed_world t.world (drop (u + n + 1) b)
        world-past = k.world ∙ rw (q, rest-after) (fed-line w (drop u b) whole)

        left-past : left_over b ≡ left_over (drop (u + n + 1) b)
        left-past = k.rest ∙ rw rest-after (left-line (drop u b) whole)

        pays : length (output_bytes t.output) + debt w.watch.stage.phase
            ≤ n + 1 + debt t.world.watch.stage.phase
        pays = rw (q, m) (lined-pays w (line (drop u b))).paid

        pub said-room : at + length (output_bytes t.output) ≤ length out
        said-room = omega (arith, line-ends, pays, k.paid, k.room, k.same, debt-small t.world.watch.stage.phase)

        pub after_line : {out' : List ℕ} {at' : ℕ} → at' ≡ at + length (output_bytes t.output)
            → out' ≡ placed out at (output_bytes t.output) → Between w₀ b out₀ t.world out' (u + n + 1) at'
        after_line e p =
            record {
              goes = goes-out (put-takes out (output_bytes t.output) at e p said-room) goes-past;
              world = world-past;
              rest = left-past;
              within = omega (arith, line-ends);
              paid = omega (arith, e, pays, k.paid);
              room = k.room;
              kept = keeps (output_bytes t.output) said-room e p;
              same = put-length out (output_bytes t.output) at e p said-room ∙ k.same;
            }

  -- The bytes from u up to the end of the piece are the start of a line.
  module _ (n : ℕ) (m : n ≡ length (line_from b u)) (last : u + n ≡ length b) where
    abbrev phase : Phase
    phase = w.watch.stage.phase

    abbrev to : ℕ
    to = u + n

    one : length (line (drop u b)) ≡ length (drop u b)
    one = omega (arith, m, last, length-drop u b)

    size : to - u ≡ length (drop u b)
    size = omega (arith, last, length-drop u b)

    -- It is left over where it is short,
    left_over_lem : to - u < line_limit → Feeds w₀ b (fed_to u at) w out₀ out
    left_over_lem h = left-short-over (record { one = one_line _ one; below = omega (arith, size) })

    kept-so : placed out at [] ≡ out
    kept-so = sym (paste-zero out at [])

    -- and ends the card where it is over-long.
    module _ (h : line_limit ≤ to - u) where
      long : line_limit ≤ length (drop u b)
      long = omega (arith, size)

      goes_over : Goes w₀ b (take at out ++ broken_bytes phase) (over_world w) []
      goes_over = goes_on_lem k.goes (goes-long w (drop u b) (omega (arith, one, long)))

      world-over : over_world w ≡ fed_world w₀ b
      world-over = fed-long w (drop u b) (one_line _ one) long ∙ sym k.world

      nothing_left : drop to b ≡ []
      nothing_left = drop_of_length-le b {i = to} (omega arith)

      last-room : at + length (broken_bytes phase) ≤ length out
      last-room = omega (arith, k.paid, k.within, k.room, k.same, broken-room phase)

      over-long : {out' : List ℕ} → out' ≡ placed out at (broken_bytes phase)
          → Feeds w₀ b (fed_to to (at + length (broken_bytes phase))) (over_world w) out₀ out'
      over-long p =
          record {
            goes = goes-rest nothing_left (goes-out (put-takes out (broken_bytes phase) at refl p last-room) goes_over);
            world = world-over;
            rest = nothing_left ∙ left-long (drop u b) (one_line _ one) long ∙ sym k.rest;
            used = omega arith;
            short = short-eq nothing_left short_none;
            kept = keeps (broken_bytes phase) last-room refl p;
            room = omega (arith, last-room, put-length out (broken_bytes phase) at refl p last-room);
          }

    -- So there is room for what it prints, and this is what is made of it.
    room-if : (t : Bool) → leb line_limit (to - u) ≡ t → at + length (tail_bytes phase (to - u)) ≤ length out
    room-if true e =
        let h = leb-true line_limit (to - u) e in rw (bytes-long phase (to - u) h) (last-room h)
    room-if false e =
        let h = leb-false line_limit (to - u) e in rw (bytes-short phase (to - u) h) (omega (arith, written-room))

    pub tail-room : at + length (tail_bytes phase (to - u)) ≤ length out
    tail-room = room-if (leb line_limit (to - u)) refl

    feeds-if : (t : Bool) → leb line_limit (to - u) ≡ t → {r : Fed} {w' : World} {out' : List ℕ}
        → r ≡ tail_fed phase u to at → w' ≡ tail_world w (to - u) → out' ≡ placed out at (tail_bytes phase (to - u))
        → Feeds w₀ b r w' out₀ out'
    feeds-if true e q v p =
        let h = leb-true line_limit (to - u) e in
        rw (q, v, tail-long phase u to at h, world-long w (to - u) h)
        (over-long h (p ∙ ap (placed out at) (bytes-long phase (to - u) h)))
    feeds-if false e q v p =
        let h = leb-false line_limit (to - u) e in
        let same = p ∙ ap (placed out at) (bytes-short phase (to - u) h) ∙ kept-so in
        rw (q, v, tail-short phase u to at h, world-short w (to - u) h, same) (left_over_lem h)

    pub tail-feeds : {r : Fed} {w' : World} {out' : List ℕ} → r ≡ tail_fed phase u to at
        → w' ≡ tail_world w (to - u) → out' ≡ placed out at (tail_bytes phase (to - u)) → Feeds w₀ b r w' out₀ out'
    tail-feeds q v p = feeds-if (leb line_limit (to - u)) refl q v p
