-- The turns of the program, in terms of lists: what a turn hands over, and what turns make together.
-- Assumes nothing.
use mathlib.Core.Path.{◌≡◌, refl, ◌∙◌, sym, ap, subst}
use mathlib.Core.Bool.{Bool, true, false, cond, false≢true}
use mathlib.Core.List.{List, [], ◌++◌, append_assoc}
use mathlib.Core.Logic.{◌⊎◌, inl, inr}
use Prim.Native.Nat.{ℕ, ◌+◌, ◌-◌, ◌*◌, ◌≤◌, ◌<◌}
use native.Mathlib.Omega.{arith}
use lib.ListN.{length, take, drop, length-append, length-drop}
use lib.Seq.{length-take-le, take-add}
use Rattle.player.specs.Card.{World, prints, start_world}
use Rattle.limits.specs.Limits.{literal_count, line_limit}
use Rattle.cards.specs.Says.{is_over}
use Rattle.feeder.specs.Feed.{Goes, Turns, fed_world, left_over}
use Rattle.player.specs.declared.Watch.{Watch}
use Rattle.feeder.specs.declared.Turn.{Turn}
use Rattle.cards.proofs.Lines.{append-nil}
use Rattle.player.proofs.Printing.{over-prints}
use Rattle.feeder.proofs.Resuming.{goes_none, fed-short, left-short, short_none}
use Rattle.cards.proofs.Stages.{rank, rank-first, rank-positive, is-over}
use Rattle.feeder.proofs.Ending.{fed-near}
use Rattle.towerwatch.specs.declared.Next.{Next}
use Rattle.towerwatch.specs.declared.Total.{Total}
use Rattle.towerwatch.specs.declared.Stand.{Stand}
use Rattle.towerwatch.specs.declared.Stand.TheVariants as S
use Rattle.streams.specs.Calls.{Came}
use Rattle.towerwatch.specs.Run.{output_room, is_reading, Fed, Ends, On, Stands}
use Rattle.towerwatch.specs.Turns.{is_done, Handed}
use Rattle.towerwatch.specs.Run.{Takes, Once, Whole}
use Rattle.towerwatch.specs.Turns.{Turned}
use Rattle.towerwatch.proofs.Joining.{Joined, joined}

-- ---- the end of the input

-- No byte came.
pub came-none : {i : ℕ} (r : ℕ) (l : List ℕ) → Came i (take r l) → r ≡ 0 → Came i []
came-none {i} r l h z = subst (λ (n : ℕ). Came i (take n l)) z h

-- ---- a piece

-- What goes on prints all that the bytes print,
fed : {w w' : World} {s s' o : List ℕ} → Goes w s o w' s' → w' ≡ fed_world w s → s' ≡ left_over s → Fed w s o
fed {w} {w'} {s} {s'} {o} g h l =
    record {
      tells = λ more. g.tells more ∙ ap (λ (x : World). o ++ prints x (s' ++ more)) h
          ∙ ap (λ (x : List ℕ). o ++ prints (fed_world w s) (x ++ more)) l;
    }

-- and all that there is to print where the card is over.
all-over : {w w' : World} {s s' o : List ℕ} → Goes w s o w' s' → is_over w'.watch.stage.phase ≡ true
    → (more : List ℕ) → o ≡ prints w (s ++ more)
all-over {w} {w'} {s} {s'} {o} g e more =
    sym
    (g.tells more
    ∙ ap (λ (l : List ℕ). o ++ l) (over-prints w' (s' ++ more) (is-over w'.watch.stage.phase e))
    ∙ append-nil o)

piece-stands : {w w' : World} {s s' o : List ℕ} → Goes w s o w' s' → w' ≡ fed_world w s → s' ≡ left_over s
    → (none : Type 0) (done over : Bool) → over ≡ is_over w'.watch.stage.phase
    → Stands none (cond done (cond over S.Over S.Reading) S.Stuck) w s o w' s'
piece-stands g h l none true true e = all-over g (sym e)
piece-stands g h l none true false e = record { goes = g; world = h; rest = l; going = sym e }
piece-stands g h l none false over e = inr (fed g h l)

piece-done : (done over : Bool) → done ≡ is_done (cond done (cond over S.Over S.Reading) S.Stuck)
piece-done true true = refl
piece-done true false = refl
piece-done false over = refl

-- A piece of `got` bytes, after the first `to` bytes of buf.
pub piece-takes : {w w' : World} {buf buf' old out : List ℕ} {f : Turn} {at : ℕ} {done : Bool} (to got : ℕ)
    → Turns w buf (to + got) f w' buf' old out → Handed at (take f.filled out) done
    → to + got ≤ length buf → length buf ≤ length out → 0 < got
    → (n : Next) (over : Bool)
    → n.got ≡ got → n.shown ≡ f.filled → over ≡ is_over w'.watch.stage.phase
    → n.stand ≡ cond done (cond over S.Over S.Reading) S.Stuck
    → Takes at (take got (drop to buf)) w (take to buf) n w' (take f.rest buf') out
piece-takes {w} {w'} {buf} {buf'} {old} {out} {f} {at} {done} to got t d h b p n over g k o z =
    let join : take (to + got) buf ≡ take to buf ++ take got (drop to buf) = take-add to got buf in
    record {
      got = length-take-le got (drop to buf) (omega (arith, length-drop to buf)) ∙ sym g;
      more = λ x. omega (arith, p, g);
      shown = rw k t.room;
      room = omega (arith, g, h, b);
      handed = rw (k, z, sym (piece-done done over)) d;
      stands =
          rw (k, z, sym join)
          (piece-stands t.goes t.world t.rest _ done over o);
    }

-- ---- the whole run

-- How many bytes may still come after `to` bytes of a line.
abbrev pub budget : Watch → ℕ → ℕ
budget k to = line_limit * rank k.stage - to

-- The most bytes that a card can have before its end is known.
abbrev pub longest_card : ℕ
longest_card = line_limit * (literal_count + 4)

-- From the start the program has come to w with the bytes s left over: so many bytes came in, and so many were handed
-- over. Both are bounded by what may still come: a turn hands over at most as many bytes as the output has room for.
pub record Reached (w : World) (s : List ℕ) (got shown : ℕ) : Type 0 where
  pub input : List ℕ
  pub output : List ℕ
  pub turned : Turned input output true
  pub goes : Goes start_world input output w s
  pub world : w ≡ fed_world start_world input
  pub rest : s ≡ left_over input
  pub came : length input ≡ got
  pub gone : length output ≡ shown
  pub going : is_over w.watch.stage.phase ≡ false
  pub read : got + budget w.watch (length s) ≤ longest_card
  pub written : shown + output_room * budget w.watch (length s) ≤ output_room * longest_card

pub reached-start : Reached start_world [] 0 0
reached-start =
    record {
      input = [];
      output = [];
      turned = Turned.start;
      goes = goes_none start_world [];
      world = fed-short start_world [] short_none;
      rest = left-short [] short_none;
      came = refl;
      gone = refl;
      going = refl;
      read = omega (arith, rank-first 0 0);
      written = omega (arith, rank-first 0 0);
    }

-- What goes on after some bytes goes on after a piece more.
goes-both : {u v w : World} {r s t o p : List ℕ} (c : List ℕ) → Goes u r o v s → Goes v (s ++ c) p w t
    → Goes u (r ++ c) (o ++ p) w t
goes-both {u} {v} {w} {r} {s} {t} {o} {p} c g h =
    record {
      tells = λ more.
          ap (prints u) (append_assoc r c more)
          ∙ g.tells (c ++ more)
          ∙ ap (λ (l : List ℕ). o ++ prints v l) (sym (append_assoc s c more))
          ∙ ap (λ (l : List ℕ). o ++ l) (h.tells more)
          ∙ sym (append_assoc o p _);
    }

-- After the bytes r, which do not end the card, comes the piece c: the world and the bytes left over are those after r
-- and c together.
module _ {v : World} (r : List ℕ) {s : List ℕ} (h : v ≡ fed_world start_world r) (l : s ≡ left_over r)
    (f : is_over v.watch.stage.phase ≡ false) (c : List ℕ) where
  both : Joined start_world r c
  both = joined start_world r c (ap (λ (x : World). is_over x.watch.stage.phase) (sym h) ∙ f)

  world-both : fed_world v (s ++ c) ≡ fed_world start_world (r ++ c)
  world-both =
      ap (λ (x : World). fed_world x (s ++ c)) h
      ∙ ap (λ (x : List ℕ). fed_world (fed_world start_world r) (x ++ c)) l
      ∙ sym both.world

  rest_both : left_over (s ++ c) ≡ left_over (r ++ c)
  rest_both = ap (λ (x : List ℕ). left_over (x ++ c)) l ∙ sym both.rest

  -- Where the program ends after the piece, it ends after r and c.
  module _ {o : List ℕ} (g : Goes start_world r o v s) (p : List ℕ) {none over : Type 0} (n : none → over) where
    ends-all : p ≡ prints v (s ++ c) → o ++ p ≡ prints start_world (r ++ c)
    ends-all e = ap (λ (x : List ℕ). o ++ x) e ∙ sym (g.tells c)

    ends-over : ((more : List ℕ) → p ≡ prints v ((s ++ c) ++ more)) → (more : List ℕ)
        → o ++ p ≡ prints start_world ((r ++ c) ++ more)
    ends-over e more =
        ap (λ (x : List ℕ). o ++ x) (e more ∙ ap (prints v) (append_assoc s c more))
        ∙ sym (g.tells (c ++ more))
        ∙ ap (prints start_world) (sym (append_assoc r c more))

    ends_stuck : (none × (p ≡ prints v (s ++ c))) ⊎ Fed v (s ++ c) p
        → (over × (o ++ p ≡ prints start_world (r ++ c))) ⊎ Fed start_world (r ++ c) (o ++ p)
    ends_stuck (inl e) = inl (n e.0, ends-all e.1)
    ends_stuck (inr e) = inr (fed (goes-both c g e) world-both rest_both)

    ends-both : (k : Stand) → Ends none k v (s ++ c) p → Ends over k start_world (r ++ c) (o ++ p)
    ends-both S.Reading e = e
    ends-both S.Ended e = (n e.0, ends-all e.1)
    ends-both S.Over e = ends-over e
    ends-both S.Stuck e = ends_stuck e

reading-done : (k : Stand) → is_reading k ≡ true → is_done k ≡ true
reading-done S.Reading e = refl
reading-done S.Ended e = refl
reading-done S.Over e = refl
reading-done S.Stuck e = e

module _ {w w' : World} {s s' out : List ℕ} {g h : ℕ} (r : Reached w s g h) (n : Next)
    (t : Once g h w s n w' s' out) where
  o : Takes h t.piece w s n w' s' out
  o = t.takes

  -- The turns with this one.
  turned-both : Turned (r.input ++ t.piece) (r.output ++ take n.shown out) (is_done n.stand)
  turned-both =
      Turned.turn r.turned (subst (λ (i : ℕ). Came i t.piece) (sym r.came) t.came)
      (subst (λ (i : ℕ). Handed i (take n.shown out) (is_done n.stand)) (sym r.gone) o.handed)

  input-length : length (r.input ++ t.piece) ≡ g + n.got
  input-length = simp length-append (omega (arith, r.came, o.got))

  output-length : length (r.output ++ take n.shown out) ≡ h + n.shown
  output-length = simp length-append (omega (arith, r.gone, length-take-le n.shown out o.shown))

  -- The program reads on.
  on-as : (k : Stand) → is_reading k ≡ true → Stands (t.piece ≡ []) k w (s ++ t.piece) (take n.shown out) w' s'
      → On w (s ++ t.piece) (take n.shown out) w' s'
  on-as S.Reading f e = e
  on-as S.Ended f e = absurd (false≢true f)
  on-as S.Over f e = absurd (false≢true f)
  on-as S.Stuck f e = absurd (false≢true f)

  module _ (e : is_reading n.stand ≡ true) (short : length s' < line_limit) where
    on : On w (s ++ t.piece) (take n.shown out) w' s'
    on = on-as n.stand e o.stands

    near : length s + n.got + line_limit * rank w'.watch.stage
        ≤ line_limit * rank w.watch.stage + length s'
    near =
        let going = ap (λ (x : World). is_over x.watch.stage.phase) (sym on.world) ∙ on.going in
        let b = fed-near w (s ++ t.piece) going in
        rw (on.world, on.rest) (omega (arith, length-append s t.piece, o.got, b))

    -- Fewer bytes may still come.
    pub fewer : n.got + budget w'.watch (length s') ≤ budget w.watch (length s)
    fewer = omega (arith, near, rank-positive w'.watch.stage on.going)

    pub reached-on : length out ≡ output_room → Reached w' s' (g + n.got) (h + n.shown)
    reached-on z =
        record {
          input = r.input ++ t.piece;
          output = r.output ++ take n.shown out;
          turned = subst (Turned _ _) (reading-done n.stand e) turned-both;
          goes = goes-both t.piece r.goes on.goes;
          world = on.world ∙ world-both r.input r.world r.rest r.going t.piece;
          rest = on.rest ∙ rest_both r.input r.world r.rest r.going t.piece;
          came = input-length;
          gone = output-length;
          going = on.going;
          read = omega (arith, r.read, fewer);
          written = omega (arith, r.written, fewer, o.more e, o.shown, z);
        }

  -- A read brought none.
  none_came : t.piece ≡ [] → Came (g + n.got) []
  none_came z =
      let e : g ≡ g + n.got = omega (arith, ap length z, o.got) in
      subst (λ (i : ℕ). Came i []) e (subst (Came g) z t.came)

  -- It ends.
  ends_as : (k : Stand) → is_reading k ≡ false → Stands (t.piece ≡ []) k w (s ++ t.piece) (take n.shown out) w' s'
      → Ends (t.piece ≡ []) k w (s ++ t.piece) (take n.shown out)
  ends_as S.Reading f e = absurd (false≢true (sym f))
  ends_as S.Ended f e = e
  ends_as S.Over f e = e
  ends_as S.Stuck f e = e

  pub ends-whole : is_reading n.stand ≡ false → (u : Total) → u.got ≡ g + n.got → u.shown ≡ h + n.shown
      → u.stand ≡ n.stand → Whole u
  ends-whole f u e z k =
      record {
        input = r.input ++ t.piece;
        output = r.output ++ take n.shown out;
        got = input-length ∙ sym e;
        shown = output-length ∙ sym z;
        turned = rw k turned-both;
        ends =
            rw (e, k)
            (ends-both r.input r.world r.rest r.going t.piece r.goes (take n.shown out) none_came
            n.stand (ends_as n.stand f o.stands));
      }
