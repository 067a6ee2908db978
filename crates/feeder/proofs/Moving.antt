-- Bytes that are moved down in a buffer, bytes that are placed in one, and a buffer that is lent from a place on.
-- Assumes nothing.
use mathlib.Core.Path.{◌≡◌, ◌∙◌, sym, ap}
use mathlib.Core.List.{List, [], ◌∷◌, ◌++◌}
use Prim.Native.Nat.{ℕ, zero, suc, ◌+◌, ◌-◌, ◌≤◌}
use native.Mathlib.Omega.{arith}
use lib.ListN.{length, take, drop, length-drop, length-append, drop_of_length-le}
use lib.Seq.{paste-zero, take_at, length-take-le, take-nil, take_all, drop_at}
use Rattle.std.proofs.Common.{zero-add}
use Rattle.std.specs.List.{copy_within}
use Rattle.feeder.specs.Feed.{placed, shifted}
use Rattle.cards.proofs.Lines.{append-nil}

-- Bytes that are copied to the front are moved there,
pub moved-front : (old : List ℕ) {new : List ℕ} (from to : ℕ) → new ≡ copy_within old from to 0
    → new ≡ shifted old from to
moved-front old from to e =
    e ∙ ap (λ (n : ℕ). take (to - from) (drop from old) ++ drop n old) (zero-add (to - from))

-- and stand there.
pub take-shifted : (buf : List ℕ) (from to : ℕ) → from ≤ to → to ≤ length buf
    → take (to - from) (shifted buf from to) ≡ take (to - from) (drop from buf)
take-shifted buf from to h g =
    take_at (take (to - from) (drop from buf)) (drop (to - from) buf) (to - from)
    (length-take-le (to - from) (drop from buf) (omega (arith, length-drop from buf)))

-- What is placed after the bytes in front is read with them, and the buffer is as long as it was.
pub take-placed : (out s : List ℕ) (at : ℕ) → at + length s ≤ length out
    → take (at + length s) (placed out at s) ≡ take at out ++ s
take-placed out s at h =
    let front : length (take at out) ≡ at = length-take-le at out (omega arith) in
    let l : length (take at out ++ s) ≡ at + length s =
    length-append (take at out) s ∙ ap (λ (n : ℕ). n + length s) front in
    take_at (take at out ++ s) (drop (at + length s) out) (at + length s) l

pub drop-placed : (out s : List ℕ) (at : ℕ) → at + length s ≤ length out
    → drop (at + length s) (placed out at s) ≡ drop (at + length s) out
drop-placed out s at h =
    let front : length (take at out) ≡ at = length-take-le at out (omega arith) in
    let l : length (take at out ++ s) ≡ at + length s =
    length-append (take at out) s ∙ ap (λ (n : ℕ). n + length s) front in
    drop_at (take at out ++ s) (drop (at + length s) out) (at + length s) l

pub length-placed : (out s : List ℕ) (at : ℕ) → at + length s ≤ length out
    → length (placed out at s) ≡ length out
length-placed out s at h =
    let rest = drop (at + length s) out in
    let a : length (placed out at s) ≡ length (take at out ++ s) + length rest =
    length-append (take at out ++ s) rest in
    let b = length-append (take at out) s in
    omega (arith, a, b, length-take-le at out (omega arith), length-drop (at + length s) out)

-- The same as the code's answers: new is old with s placed at `at`, and at' the place after it.
module _
    (old s : List ℕ) (at : ℕ) {new : List ℕ} {at' : ℕ}
    (e : at' ≡ at + length s) (p : new ≡ placed old at s) (h : at + length s ≤ length old) where
  pub put-takes : take at' new ≡ take at old ++ s
  put-takes = rw (e, p) (take-placed old s at h)

  pub put_keeps : drop at' new ≡ drop at' old
  put_keeps = rw (e, p) (drop-placed old s at h)

  pub put-length : length new ≡ length old
  put-length = rw p (length-placed old s at h)

-- A part of a part.
pub drop-take : (u t : ℕ) (l : List ℕ) → drop u (take t l) ≡ take (t - u) (drop u l)
drop-take zero t l = let z : t - zero ≡ t = omega arith in rw z
drop-take (suc u) zero l = let z : zero - suc u ≡ 0 = omega arith in rw z
drop-take (suc u) (suc t) [] = let z : suc t - suc u ≡ t - u = omega arith in rw z (sym (take-nil (t - u)))
drop-take (suc u) (suc t) (x ∷ l) = let z : suc t - suc u ≡ t - u = omega arith in rw z (drop-take u t l)

-- What is lent of a list from the place i on, and the list once that part has come back.
abbrev pub rest_of : List ℕ → ℕ → List ℕ
rest_of l i = take (length l - i) (drop i l)

abbrev pub with_rest : List ℕ → ℕ → List ℕ → List ℕ
with_rest l i part = take i l ++ (part ++ drop (length l - i) (drop i l))

pub rest_all : (l : List ℕ) (i : ℕ) → rest_of l i ≡ drop i l
rest_all l i = take_all (length l - i) (drop i l) (omega (arith, length-drop i l))

pub with_rest_lem : (l : List ℕ) (i : ℕ) (part : List ℕ) → with_rest l i part ≡ take i l ++ part
with_rest_lem l i part =
    rw (drop_of_length-le (drop i l) {i = length l - i} (omega (arith, length-drop i l)))
    (ap (λ (k : List ℕ). take i l ++ k) (append-nil part))

-- No bytes are placed.
pub placed_none : (out : List ℕ) (at : ℕ) → placed out at [] ≡ out
placed_none out at = sym (paste-zero out at [])
