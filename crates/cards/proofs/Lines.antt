-- Laws of lines: the first line of some bytes, and how bytes are cut into lines, whatever comes after them. Assumes
-- nothing.
use mathlib.Core.Path.{◌≡◌, refl, ◌∙◌, sym, ap}
use mathlib.Core.Bool.{Bool, true, false}
use mathlib.Core.List.{List, [], ◌∷◌, ◌++◌}
use Prim.Native.Nat.{ℕ, zero, suc, ◌+◌, ◌≤◌, ◌<◌}
use native.Mathlib.Omega.{arith}
use lib.Dec.{eqb}
use lib.ListN.{length, take, drop}
use lib.Seq.{take-length}
use Rattle.lists.specs.Line.{line}
use Rattle.lists.specs.Text.{line_end}
use Rattle.lists.proofs.Lines.{take-line}
use Rattle.cards.specs.Lines.{Cut, cut_as, with_line, push_on, cut}

pub append-nil : (l : List ℕ) → l ++ [] ≡ l
append-nil [] = refl
append-nil (x ∷ xs) = ap (λ (l : List ℕ). x ∷ l) (append-nil xs)

-- Where s has a line end, its first line is settled, and the rest is cut by itself.
abbrev CutFirst : List ℕ → List ℕ → Type 0
CutFirst s more =
    length (line s) < length s
    → cut (s ++ more) ≡ with_line (line s) (cut (drop (suc (length (line s))) s ++ more))

cut-first-split : (b : ℕ) (s more : List ℕ) (t : Bool) → eqb b line_end ≡ t → CutFirst s more → CutFirst (b ∷ s) more
unfolding line cut
cut-first-split b s more true e ih h = rw e
cut-first-split b s more false e ih h = let g = rw e at h in rw (e, ih (omega arith))

pub cut-first : (s more : List ℕ) → CutFirst s more
unfolding line
cut-first [] more h = absurd (omega arith)
cut-first (b ∷ s) more h = cut-first-split b s more (eqb b line_end) refl (cut-first s more) h

-- How long the first line is, whole or not.
abbrev pub first_of : List (List ℕ) → List ℕ → ℕ
first_of [] t = length t
first_of (l ∷ ls) t = length l

abbrev pub first_length : Cut → ℕ
first_length c = first_of c.whole c.tail

push-first : (b : ℕ) (ls : List (List ℕ)) (t : List ℕ) → first_length (push_on b ls t) ≡ suc (first_of ls t)
push-first b [] t = refl
push-first b (l ∷ ls) t = refl

-- The bytes of the first line at hand are part of it, whatever comes after.
abbrev LongFirst : List ℕ → List ℕ → Type 0
LongFirst s more = length (line s) ≤ first_length (cut (s ++ more))

first-split : (b : ℕ) (s more : List ℕ) (t : Bool) → eqb b line_end ≡ t → LongFirst s more → LongFirst (b ∷ s) more
unfolding line cut
first-split b s more true e ih = rw e (omega arith)
first-split b s more false e ih =
    rw (e, push-first b (cut (s ++ more)).whole (cut (s ++ more)).tail) (omega arith)

pub first-long : (s more : List ℕ) → LongFirst s more
unfolding line
first-long [] more = omega arith
first-long (b ∷ s) more = first-split b s more (eqb b line_end) refl (first-long s more)

-- A line with no line end in it is all of its bytes.
pub one_line : (s : List ℕ) → length (line s) ≡ length s → line s ≡ s
one_line s e = sym (take-line s) ∙ ap (λ (n : ℕ). take n s) e ∙ take-length s

-- Bytes with no line end are no whole line.
cut-split : (b : ℕ) (s : List ℕ) (t : Bool) → eqb b line_end ≡ t → line (b ∷ s) ≡ b ∷ s
    → (line s ≡ s → cut s ≡ cut_as [] s) → cut (b ∷ s) ≡ cut_as [] (b ∷ s)
unfolding line cut
cut-split b s true e h ih = absurd (let g = ap length (rw e at h) in omega arith)
cut-split b s false e h ih = let g = rw e at h in let k : line s ≡ s = cc in rw (e, ih k)

pub cut-one : (s : List ℕ) → line s ≡ s → cut s ≡ cut_as [] s
unfolding cut
cut-one [] h = refl
cut-one (b ∷ s) h = cut-split b s (eqb b line_end) refl h (cut-one s)

-- Where the first line is whole, the rest is cut by itself.
pub cut-whole : (s : List ℕ) → length (line s) < length s
    → cut s ≡ with_line (line s) (cut (drop (suc (length (line s))) s))
cut-whole s h =
    ap cut (sym (append-nil s))
    ∙ cut-first s [] h
    ∙ ap (λ (l : List ℕ). with_line (line s) (cut l)) (append-nil (drop (suc (length (line s))) s))

-- The bytes of these lines with their line ends.
unfoldable pub lengths : List (List ℕ) → ℕ
lengths [] = 0
lengths (l ∷ ls) = length l + 1 + lengths ls

push-lengths : (b : ℕ) (ls : List (List ℕ)) (t : List ℕ)
    → lengths (push_on b ls t).whole + length (push_on b ls t).tail ≡ 1 + (lengths ls + length t)
unfolding lengths
push-lengths b [] t = omega arith
push-lengths b (l ∷ ls) t = omega arith

length-split : (b : ℕ) (s : List ℕ) (t : Bool) → eqb b line_end ≡ t
    → length s ≡ lengths (cut s).whole + length (cut s).tail
    → length (b ∷ s) ≡ lengths (cut (b ∷ s)).whole + length (cut (b ∷ s)).tail
unfolding cut lengths
length-split b s true e h = rw e (omega (arith, h))
length-split b s false e h = rw e (omega (arith, h, push-lengths b (cut s).whole (cut s).tail))

-- A text has the bytes of its lines and of its tail.
pub cut-lengths : (s : List ℕ) → length s ≡ lengths (cut s).whole + length (cut s).tail
unfolding cut lengths
cut-lengths [] = refl
cut-lengths (b ∷ s) = length-split b s (eqb b line_end) refl (cut-lengths s)

-- The rest of a line is the line of the rest.
drop-line-split : (n b : ℕ) (s : List ℕ) (t : Bool) → eqb b line_end ≡ t → suc n ≤ length (line (b ∷ s))
    → (n ≤ length (line s) → drop n (line s) ≡ line (drop n s)) → drop (suc n) (line (b ∷ s)) ≡ line (drop n s)
unfolding line
drop-line-split n b s true e h ih = absurd (let g = rw e at h in omega arith)
drop-line-split n b s false e h ih = let g = rw e at h in rw e (ih (omega arith))

pub drop-line : (n : ℕ) (s : List ℕ) → n ≤ length (line s) → drop n (line s) ≡ line (drop n s)
unfolding line
drop-line zero s h = refl
drop-line (suc n) [] h = absurd (omega arith)
drop-line (suc n) (b ∷ s) h = drop-line-split n b s (eqb b line_end) refl h (drop-line n s)
