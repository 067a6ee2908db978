-- What writing leaves: a line and the whole text placed part by part, and the cases of the operation. Assumes nothing.
use mathlib.Core.Path.{◌≡◌, ◌∙◌, sym, ap}
use mathlib.Core.List.{List, ◌++◌}
use Prim.Native.Nat.{ℕ, ◌+◌, ◌*◌, ◌≤◌, ◌<◌, min}
use native.Mathlib.Omega.{arith}
use native.Mathlib.Nat.{zero-add}
use lib.ListN.{length, drop}
use lib.Seq.{sets, sets-eq}
use borrow.Author.Tests.{lt-leb}
use Rattle.std.specs.Prelude.{Ok, Err}
use Rattle.limits.specs.Limits.{velocity_count}
use Rattle.limits.specs.declared.Refusal.{Refusal}
use Rattle.limits.specs.declared.Refusal.TheVariants.{ShortText}
use Rattle.lists.specs.Text.{bytes}
use Rattle.tables.specs.Table.{checked, passed}
use Rattle.tables.specs.declared.Equation.{Equation}
use Rattle.tables.proofs.Checks.{checked-fitting, passed-both, refused-table}
use Rattle.lustre.specs.Text.{line_rest, line_text, lines, text_of}
use Rattle.lustre.specs.Write.{write_checked, after_write, after_text, write_effect}
use Rattle.lustre.specs.Form.{own, last_two, render, form_width, form_at, form_of, Plain, PlainTable}
use Rattle.lustre.proofs.Forms.{form-fine, end-form}
use Rattle.lustre.proofs.Parts.{opening, closing, opening-text, foot-text, line-text}
use Rattle.lustre.proofs.Tables.{well-plain}
use Rattle.lustre.proofs.Theorems.{write-passed}
use Rattle.lustre_write.specs.Placed.{Placed, form_room}
use Rattle.lustre_write.proofs.Placing.{lent, back, joined, placed_as}

-- The text s of the form that was fetched for an equation: it is short, and gives the equation's text.
module _ (e : Equation) (f : ℕ) (s : List ℕ) (w : Plain e) (ef : f ≡ form_of e) (es : s ≡ (form_at f).text) where
  same_text : s ≡ (form_at (form_of e)).text
  same_text = rw ef at es

  pub fetched_short : length s ≤ form_width
  fetched_short = rw same_text (form-fine (form_of e) w.known).room

  pub fetched_text : render e s ≡ line_rest e
  fetched_text = rw same_text (sym (end-form e w))

-- A line in its two parts, and the text in its three.
pub line_placed : (i q : ℕ) (d e e' : Equation) {l l' : ℕ} {b m p : List ℕ} {r k : ℕ} → d ≡ own i → e ≡ e'
    → Placed l (render d (bytes "fA=")) b m r → q ≡ min r (length m) → Placed l' (line_rest e) (lent m q) p k
    → Placed (l + l') (line_text i e') b (back m q p) (r + k)
line_placed i q d e e' h g w c v =
    placed_as (line-text i e ∙ ap (line_text i) g)
    (joined q (placed_as (ap (λ (x : Equation). render x (bytes "fA=")) h) w) c v)

pub text_placed : (t : List ℕ) (n q u : ℕ) (d f : Equation) {l : ℕ} {b m p s : List ℕ} {r k j : ℕ}
    → Placed form_room (render d opening) b m r → q ≡ min r (length m) → Placed l (lines t n) (lent m q) p k
    → u ≡ min (r + k) (length (back m q p)) → f ≡ last_two n
    → Placed form_room (render f closing) (lent (back m q p) u) s j
    → Placed (form_room + l + form_room) (text_of t n) b (back (back m q p) u s) (r + k + j)
unfolding text_of
text_placed t n q u d f w c v c' e x =
    joined u (joined q (placed_as (opening-text d) w) c v) c'
    (placed_as (ap (λ (y : Equation). render y closing) e ∙ foot-text n) x)

-- What writing does, by its cases: the table is refused,
pub write_refused : (velocities : ℕ) (t b : List ℕ) (n : ℕ) (r : Refusal) → checked velocities t n ≡ Err r
    → after_write (Err r) b ≡ write_effect velocities t n b
unfolding write_effect write_checked
write_refused velocities t b n r e = rw (refused-table velocities t n r _ e)

-- the buffer is too short,
pub write_short : (velocities : ℕ) (t b : List ℕ) (n : ℕ) → checked velocities t n ≡ passed
    → length b < length (text_of t n) → after_write (Err ShortText) b ≡ write_effect velocities t n b
unfolding write_effect write_checked
write_short velocities t b n e h =
    let p = passed-both velocities t n e in rw (p.0, p.1, lt-leb (length (text_of t n)) (length b) h)

-- the text is written.
pub write_done : (velocities : ℕ) (t b a : List ℕ) (n k : ℕ) → checked velocities t n ≡ passed
    → length (text_of t n) ≤ length b → k ≡ length (text_of t n) → a ≡ sets b 0 (text_of t n)
    → after_write (Ok k) a ≡ write_effect velocities t n b
unfolding after_text
write_done velocities t b a n k e h l w =
    let i : a ≡ text_of t n ++ drop (length (text_of t n)) b =
    w ∙ sets-eq (text_of t n) b 0 (omega arith) ∙ rw zero-add in
    rw (write-passed velocities t b n e h, i, l)

-- A table that passes has all of its numbers, and forms throughout.
pub whole_passed : (t : List ℕ) (n : ℕ) → checked velocity_count t n ≡ passed → 4 * n ≤ length t
whole_passed t n e = (checked-fitting velocity_count t n e).whole

pub plain_passed : (t : List ℕ) (n : ℕ) → checked velocity_count t n ≡ passed → PlainTable t n
plain_passed t n e = well-plain velocity_count t n (omega arith) e

-- All of these.
pub ruleset writing = (write_refused, write_short, write_done, whole_passed, plain_passed)
