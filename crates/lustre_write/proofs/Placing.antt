-- Texts placed in a buffer, one after the other, each in the unfilled tail that the one before left. Assumes nothing.
use mathlib.Core.Path.{◌≡◌, refl, ◌∙◌, sym, ap}
use mathlib.Core.List.{List, [], ◌∷◌, ◌++◌, append_assoc, append-nil}
use Prim.Native.Nat.{ℕ, suc, ◌+◌, ◌*◌, ◌-◌, ◌/◌, ◌%◌, ◌≤◌, ◌<◌, min}
use native.Mathlib.Omega.{arith}
use native.Mathlib.Nat.{add-zero, zero-add, suc-add}
use native.Mathlib.Numerals.{add-one}
use native.Mathlib.Decide.{dec_le}
use lib.ListN.{length, take, drop, set, get_or, length-append, take-append-drop}
use lib.Seq.{sets, take-suc, take-length, drop-length, length-take-le}
use borrow.Author.Rules.{part_to_end}
use borrow.Rule.Slice.PartMut.{Post-is}
use Rattle.lists.specs.Decimal.{digit}
use Rattle.lists.proofs.Buffers.{sets-append, sets-out}
use Rattle.tables.specs.Table.{equation_at}
use Rattle.lustre.specs.Numerals.{number_text}
use Rattle.lustre.specs.Text.{line_text, lines}
use Rattle.lustre.specs.Form.{piece, render}
use Rattle.lustre_write.specs.Placed.{Placed, piece_room, line_room}
use Rattle.lustre.proofs.Numerals.{digits-one, digits_more, digits-short}
use Rattle.tables.specs.declared.Equation.{Equation}

-- What stands before is kept.
sets-cons : (p : ℕ) (xs l : List ℕ) (i : ℕ) → sets (p ∷ l) (suc i) xs ≡ p ∷ sets l i xs
sets-cons p [] l i = refl
sets-cons p (x ∷ xs) l i = sets-cons p xs (set l i x) (suc i)

sets-after : (ps xs l : List ℕ) (i : ℕ) → sets (ps ++ l) (length ps + i) xs ≡ ps ++ sets l i xs
sets-after [] xs l i = ap (λ (k : ℕ). sets l k xs) (omega arith)
sets-after (p ∷ ps) xs l i =
    ap (λ (k : ℕ). sets (p ∷ (ps ++ l)) k xs) (suc-add (length ps) i)
    ∙ sets-cons p xs (ps ++ l) (length ps + i)
    ∙ ap (λ (k : List ℕ). p ∷ k) (sets-after ps xs l i)

-- A text stored in the unfilled tail, which begins at q.
tail-sets : (l xs : List ℕ) (p q : ℕ) → q ≡ min p (length l) → take q l ++ sets (drop q l) 0 xs ≡ sets l p xs
tail-sets l xs p q e =
    elim (dec_le p (length l)) [
      | yes h ↦ (let z : q ≡ p = omega arith in
          let n : length (take p l) + 0 ≡ p = add-zero (length (take p l)) ∙ length-take-le p l h in
          rw z (sym (sets-after (take p l) xs (drop p l) 0) ∙ rw (n, take-append-drop)))
      | no h ↦ (let z : q ≡ length l = omega arith in
          rw (z, take-length, drop-length, sets-out [] 0 xs (omega arith), append-nil)
          (sym (sets-out l p xs (omega arith))))
    ]

-- The unfilled tail of m from q on, as it is lent, and the whole when it has come back as p.
abbrev pub lent : List ℕ → ℕ → List ℕ
lent m q = take (length m - q) (drop q m)

abbrev pub back : List ℕ → ℕ → List ℕ → List ℕ
back m q p = take q m ++ (p ++ drop (length m - q) (drop q m))

after_text_lem : (xs ys b m p : List ℕ) (r q : ℕ) → r ≡ length xs → m ≡ sets b 0 xs → q ≡ min r (length m)
    → p ≡ sets (lent m q) 0 ys → back m q p ≡ sets b 0 (xs ++ ys)
after_text_lem xs ys b m p r q er em eq ep =
    let h : q ≤ length m = omega arith in
    let n : p ≡ sets (drop q m) 0 ys = rw (← part_to_end m q) ep in
    let l : drop (length m - q) (drop q m) ≡ [] = Post-is q (length m) m h ∙ drop-length m in
    rw (l, append-nil, n, tail-sets m ys r q eq)
    (rw (em, er) (ap (λ (k : ℕ). sets (sets b 0 xs) k ys) (sym (zero-add (length xs))) ∙ sets-append b 0 xs ys))

-- A text, and then another in the tail that is left.
pub joined : {l l' : ℕ} {xs ys b m p : List ℕ} {r k : ℕ} (q : ℕ) → Placed l xs b m r → q ≡ min r (length m)
    → Placed l' ys (lent m q) p k → Placed (l + l') (xs ++ ys) b (back m q p) (r + k)
joined {l} {l'} {xs} {ys} {b} {m} {p} {r} {k} q w eq v = record {
  result = rw (length-append, ← w.result, ← v.result);
  buffer = after_text_lem xs ys b m p r q w.result w.buffer eq v.buffer;
  short = omega (arith, w.short, v.short);
}

-- The same of a text that is equal.
pub placed_as : {l : ℕ} {xs ys b a : List ℕ} {r : ℕ} → xs ≡ ys → Placed l xs b a r → Placed l ys b a r
placed_as e w = rw e at w

-- A number of one digit, and one of more.
pub number-one : (x : ℕ) (b a : List ℕ) → x < 10 → a ≡ set b 0 (digit x) → Placed piece_room (number_text x) b a 1
number-one x b a h e =
    record { result = rw (digits-one x h); buffer = rw (digits-one x h) e; short = omega arith }

pub number_more : (x r : ℕ) (b m a : List ℕ) → 10 ≤ x → x < 4294967296 → Placed piece_room (number_text (x / 10)) b m r
    → a ≡ set m r (digit (x % 10)) → Placed piece_room (number_text x) b a (r + 1)
number_more x r b m a h g w e =
    let n : r + 1 ≡ length (number_text x) = rw (digits_more x h, length-append) (omega (arith, w.result)) in
    let more : sets b 0 (number_text (x / 10) ++ (digit (x % 10) ∷ [])) ≡ set m r (digit (x % 10)) =
    sym (sets-append b 0 (number_text (x / 10)) (digit (x % 10) ∷ [])) ∙ rw (← w.buffer, ← w.result, zero-add) in
    record {
      result = n;
      buffer = e ∙ rw (digits_more x h) (sym more);
      short = omega (arith, n, digits-short x g);
    }

-- The first j bytes of a form: none, one more.
pub form_none : (e : Equation) (f b : List ℕ) → Placed (piece_room * 0) (render e (take 0 f)) b b 0
unfolding render
form_none e f b = record { result = refl; buffer = refl; short = omega arith }

render-append : (e : Equation) (f g : List ℕ) → render e (f ++ g) ≡ render e f ++ render e g
unfolding render
render-append e [] g = refl
render-append e (x ∷ f) g = rw (render-append e f g, append_assoc)

render-more : (e : Equation) (f : List ℕ) (j : ℕ) → j < length f
    → render e (take (j + 1) f) ≡ render e (take j f) ++ piece e (get_or f j 0)
unfolding render
render-more e f j h = rw (add-one j, take-suc f j 0 h, render-append, append-nil)

pub form_more : (f : List ℕ) (e : Equation) (x q : ℕ) {b m p : List ℕ} {r j k : ℕ}
    → Placed (piece_room * j) (render e (take j f)) b m r → j < length f → x ≡ get_or f j 0 → q ≡ min r (length m)
    → Placed piece_room (piece e x) (lent m q) p k
    → Placed (piece_room * (j + 1)) (render e (take (j + 1) f)) b (back m q p) (r + k)
form_more f e x q {b} {m} {p} {r} {j} {k} w h ex eq v =
    let n : piece_room * j + piece_room ≡ piece_room * (j + 1) = omega arith in
    rw (render-more e f j h, ← ex, ← n) (joined q w eq v)

-- The lines of the first i equations: none, one more.
pub lines_none : (t b : List ℕ) → Placed 0 (lines t 0) b b 0
unfolding lines
lines_none t b = record { result = refl; buffer = refl; short = omega arith }

pub lines_more : (t : List ℕ) (i q : ℕ) {b m p : List ℕ} {r k : ℕ} → Placed (line_room * i) (lines t i) b m r
    → q ≡ min r (length m) → Placed line_room (line_text i (equation_at t i)) (lent m q) p k
    → Placed (line_room * (i + 1)) (lines t (i + 1)) b (back m q p) (r + k)
unfolding lines
lines_more t i q w eq v =
    let n : line_room * i + line_room ≡ line_room * (i + 1) = omega arith in
    rw (← n, add-one i) (joined q w eq v)
