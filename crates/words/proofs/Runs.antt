-- Runs of a text. Assumes nothing.
use mathlib.Core.Bool.{Bool, true, false, cond}
use mathlib.Core.List.{List, [], ◌∷◌}
use mathlib.Core.Path.{◌≡◌, refl, ap}
use Prim.Native.Nat.{ℕ, zero, suc, ◌+◌, ◌≤◌, ◌<◌}
use native.Mathlib.Omega.{arith}
use lib.Dec.{eqb}
use lib.ListN.{length, take, drop}
use borrow.Author.Tests.{eq-eqb}
use Rattle.lists.specs.Number.{number_at}
use Rattle.words.specs.Split.{RUN, class_of, run}

-- A run is the front of its text.
module _ (b : ℕ) (l : List ℕ) where
  take_run-at : (x : Bool) → take (length (run l)) l ≡ run l
      → take (length (cond x (b ∷ run l) [])) (b ∷ l) ≡ cond x (b ∷ run l) []
  take_run-at true h = ap (λ (r : List ℕ). b ∷ r) h
  take_run-at false h = refl

  run-length-at : (x : Bool) → length (run l) ≤ length l → length (cond x (b ∷ run l) []) ≤ suc (length l)
  run-length-at true h = omega arith
  run-length-at false h = omega arith

pub take_run : (l : List ℕ) → take (length (run l)) l ≡ run l
unfolding run
take_run [] = refl
take_run (b ∷ l) = take_run-at b l (eqb (class_of b) RUN) (take_run l)

pub run_length : (l : List ℕ) → length (run l) ≤ length l
unfolding run
run_length [] = omega arith
run_length (b ∷ l) = run-length-at b l (eqb (class_of b) RUN) (run_length l)

-- A run goes on after its first byte, and so has one, if the first byte of the text is in a run.
pub run_goes : (l : List ℕ) → 0 < length l → class_of (number_at l 0) ≡ RUN
    → length (run l) ≡ 1 + length (run (drop 1 l))
unfolding run
run_goes [] h k = absurd (omega arith)
run_goes (b ∷ l) h k = rw (eq-eqb (class_of b) RUN k) (omega arith)

pub run_some : (l : List ℕ) → 0 < length l → class_of (number_at l 0) ≡ RUN → 0 < length (run l)
unfolding run
run_some [] h k = absurd (omega arith)
run_some (b ∷ l) h k = rw (eq-eqb (class_of b) RUN k) (omega arith)

-- A run ends before the first byte that is in none.
pub run_stops : (l : List ℕ) (n : ℕ) → n ≤ length l
    → ((k : ℕ) → k < n → eqb (class_of (number_at l k)) RUN ≡ true)
    → (n < length l → eqb (class_of (number_at l n)) RUN ≡ false) → n ≡ length (run l)
unfolding run
run_stops [] n h f g = omega arith
run_stops (b ∷ l) zero h f g = rw (g (omega arith)) refl
run_stops (b ∷ l) (suc n) h f g =
    let rest = run_stops l n (omega arith) (λ k p. f (suc k) (omega arith)) (λ p. g (omega arith)) in
    rw (f 0 (omega arith)) (ap suc rest)

-- What the run at the front of a text is.
pub ruleset front = (run_length, take_run, run_some)
