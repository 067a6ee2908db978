-- Buffers whose first n numbers are cleared: their length, their numbers, and one number more. What is stored below n
-- does not change `cleared n` of a buffer, so where that is one list for two buffers, they have the same numbers from n
-- on. Assumes nothing.
use mathlib.Core.Path.{◌≡◌, refl, ◌∙◌, ap}
use mathlib.Core.List.{List, ◌++◌}
use Prim.Native.Nat.{ℕ, zero, suc, ◌+◌, ◌-◌, ◌≤◌, ◌<◌}
use native.Mathlib.Omega.{arith}
use lib.ListN.{length, set, replicate, take, drop, length-append, length-replicate, length-drop, get_or-replicate}
use lib.ListN.{get_or-append}
use lib.Seq.{drop_at, drop-set-lt, get_or-append-add, get_or-drop, length-take-le}
use Rattle.lists.specs.Number.{number_at}
use Rattle.packer.specs.Round.{cleared}
use Rattle.packer.specs.Place.{filled}

-- The length is kept.
pub length-cleared : (n : ℕ) (l : List ℕ) → n ≤ length l → length (cleared n l) ≡ length l
length-cleared n l h = simp (length-append, length-replicate, length-drop) (omega arith)

-- The first n numbers are 0.
pub cleared_at : (n : ℕ) (l : List ℕ) (i : ℕ) → i < n → number_at (cleared n l) i ≡ 0
cleared_at n l i h =
    let zeros : List ℕ = replicate n 0 in
    let long : length zeros ≡ n = length-replicate n 0 in
    get_or-append zeros (drop n l) 0 i (omega arith) ∙ get_or-replicate n i 0 0 h

-- The others are kept.
pub cleared-beyond : (n : ℕ) (l : List ℕ) (i : ℕ) → n ≤ i → number_at (cleared n l) i ≡ number_at l i
cleared-beyond n l i h =
    let k = i - n in
    let zeros : List ℕ = replicate n 0 in
    let e : i ≡ length zeros + k = omega (arith, length-replicate {A = ℕ} n 0) in
    let e' : n + k ≡ i = omega arith in
    ap (number_at (cleared n l)) e ∙ get_or-append-add zeros (drop n l) k 0 ∙ get_or-drop n l k 0 ∙ ap (number_at l) e'

-- What stands below n does not matter: one number,
pub cleared-set : (n : ℕ) (l : List ℕ) (i x : ℕ) → i < n → cleared n (set l i x) ≡ cleared n l
cleared-set n l i x h = ap (λ (z : List ℕ). replicate n 0 ++ z) (drop-set-lt n l i x h)

-- those that a function gives,
cleared-below : (f : ℕ → ℕ) (n : ℕ) (l : List ℕ) (i : ℕ) → i ≤ n → cleared n (filled f i l) ≡ cleared n l
unfolding filled
cleared-below f n l zero h = refl
cleared-below f n l (suc i) h = cleared-set n (filled f i l) i (f i) h ∙ cleared-below f n l i (omega arith)

pub cleared-filled : (f : ℕ → ℕ) (n : ℕ) (l : List ℕ) {l' : List ℕ} → l' ≡ filled f n l → cleared n l' ≡ cleared n l
cleared-filled f n l e = rw e (cleared-below f n l n (omega arith))

-- and n numbers of any list: those copied to the front, and those cleared before.
cleared-front : (n : ℕ) (front l : List ℕ) → length front ≡ n → cleared n (front ++ drop n l) ≡ cleared n l
cleared-front n front l e = ap (λ (z : List ℕ). replicate n 0 ++ z) (drop_at front (drop n l) n e)

pub cleared-copy : (n : ℕ) (o l : List ℕ) → n ≤ length l → cleared n (take n l ++ drop n o) ≡ cleared n o
cleared-copy n o l u = cleared-front n (take n l) o (length-take-le n l u)

pub length-copy : (n : ℕ) (o l : List ℕ) → n ≤ length l → n ≤ length o → length (take n l ++ drop n o) ≡ length o
length-copy n o l u v = simp (length-append, length-drop, length-take-le n l u) (omega arith)

pub cleared-again : (n : ℕ) (l : List ℕ) → cleared n (cleared n l) ≡ cleared n l
cleared-again n l = cleared-front n (replicate n 0) l (length-replicate n 0)

-- What a function leaves that clears the first n numbers of a buffer.
pub cleared_by : (n : ℕ) (l : List ℕ) {l' : List ℕ} → l' ≡ cleared n l → n ≤ length l
    → (length l' ≡ length l) × (cleared n l' ≡ cleared n l)
cleared_by n l e h = rw e (length-cleared n l h, cleared-again n l)
