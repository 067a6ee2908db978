-- Tests that are equal below a bound; the laws of a test of each number (lists, proofs/All.antt), which the proofs on
-- tables cite from here. Assumes nothing.
use mathlib.Core.Path.{◌≡◌, refl}
use mathlib.Core.Bool.{Bool, true, false}
use Prim.Native.Nat.{ℕ, ◌<◌}
use Rattle.tables.specs.Table.{all}
pub use Rattle.lists.proofs.All.{and-true, and-false, all_none, all_more, all-stop, all-at, all_of}

-- Both are true or both are false.
abbrev pub same : Bool → Bool → Bool
same true b = b
same false true = false
same false false = true

same-eq : (a b : Bool) → same a b ≡ true → a ≡ b
same-eq true true e = refl
same-eq true false e = cc
same-eq false true e = cc
same-eq false false e = refl

abbrev pub agreeing : (ℕ → Bool) → (ℕ → Bool) → ℕ → Bool
agreeing f g k = same (f k) (g k)

-- Two tests are equal below m if a computation over all numbers below m says so.
pub agrees : (f g : ℕ → Bool) (m : ℕ) → all (agreeing f g) m ≡ true
    → (k : ℕ) → k < m → f k ≡ g k
agrees f g m e k h = same-eq (f k) (g k) (all-at (agreeing f g) m e k h)
