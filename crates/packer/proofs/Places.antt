-- The places of equations in the packed table, found in one pass: where equation i is reached, the places of those
-- before it are known, and its class stands not after it. Assumes nothing.
use mathlib.Core.Path.{◌≡◌, refl, ◌∙◌, sym, ap}
use mathlib.Core.Bool.{Bool, cond}
use mathlib.Core.List.{List}
use mathlib.Core.Logic.{⊎_elim}
use Prim.Native.Nat.{ℕ, suc, ◌+◌, ◌≤◌, ◌<◌}
use native.Mathlib.Omega.{arith}
use native.Mathlib.Decide.{ℕ_discrete}
use native.Mathlib.Numerals.{add-one}
use lib.Dec.{eqb}
use lib.ListN.{length, set}
use borrow.Author.Tests.{eq-eqb, ne_eqb}
use Rattle.lists.specs.Number.{number_at}
use Rattle.traces.specs.Trace.{nonzero, truth}
use Rattle.traces.proofs.Laws.{nonzero-truth}
use Rattle.packing.specs.Search.{count}
use Rattle.packing.specs.Pack.{classes, kept}
use Rattle.packing.proofs.Searches.{told, count_none, count-more, count_same, count-le}
use Rattle.packing.proofs.Classes.{Classes, classes-fit, class-fixed}
use Rattle.packer.specs.Round.{Fitted}
use Rattle.packer.specs.Mark.{Named}
use Rattle.packer.specs.Place.{filled, Marked, place_at}
use Rattle.packer.proofs.Filled.{filled_at, filled-beyond}

-- The loop: the first i classes are replaced by places, and so many are kept before i.
pub record Placing (t : List ℕ) (n : ℕ) (names now : List ℕ) (size i : ℕ) : Type 0 where
  pub within : i ≤ n
  pub placed : now ≡ filled (place_at t n) i names
  pub counted : size ≡ count (kept t n) i

-- A number that passes counts for one.
count-truth : (f : ℕ → Bool) (k : ℕ) → count f k + truth (f k) ≡ count f (suc k)
count-truth f k =
    ⊎_elim (λ e. rw e (omega (arith, count-more f k e))) (λ e. rw e (omega (arith, count_same f k e))) (told (f k))

module _ (t : List ℕ) (n : ℕ) (F : Fitted t n) (names : List ℕ) (classes-are : Named t n names)
    (room : n ≤ length names) where
  pub place_none : Placing t n names names 0 0
  unfolding filled
  place_none = record { within = omega arith; placed = refl; counted = sym (count_none (kept t n)) }

  module _ {now : List ℕ} {size i : ℕ} (P : Placing t n names now size i) where
    pub place-few : size ≤ i
    place-few = omega (arith, P.counted, count-le (kept t n) i)

    module _ (l : i < n) where
      C : Classes t n (classes t n)
      C = classes-fit F.velocities t n F.equations

      -- The class of i is still there,
      pub place-class : number_at now i ≡ classes t n i
      place-class = rw P.placed (filled-beyond (place_at t n) i names i (omega arith) ∙ classes-are i l)

      pub place-least : number_at now i ≤ i
      place-least = rw place-class (C.least i l)

      -- and its place is that of i.
      own-place : cond (eqb (classes t n i) i) size (number_at now (classes t n i)) ≡ place_at t n i
      own-place =
          let least = C.least i l in
          elim (ℕ_discrete (classes t n i) i) [
            | yes q ↦ rw (eq-eqb (classes t n i) i q) (P.counted ∙ ap (count (kept t n)) (sym q))
            | no q ↦ rw (ne_eqb (classes t n i) i q, P.placed)
                (filled_at (place_at t n) i names (classes t n i) (omega arith) (omega arith)
                ∙ ap (count (kept t n)) (class-fixed t n (classes t n) C i l))
          ]

      pub place-more : {x y : ℕ} (m : List ℕ) → Marked t n m
          → x ≡ cond (eqb (number_at now i) i) size (number_at now (number_at now i))
          → y ≡ size + truth (nonzero (number_at m i)) → Placing t n names (set now i x) y (i + 1)
      unfolding filled
      place-more {x} m M e h =
          let own : cond (eqb (number_at now i) i) size (number_at now (number_at now i)) ≡ place_at t n i =
          rw place-class own-place in
          let place : x ≡ place_at t n i = e ∙ own in
          record {
            within = omega arith;
            placed = rw (add-one i, ← P.placed, place);
            counted = h ∙ rw (add-one i, M i l, nonzero-truth (kept t n i), P.counted) (count-truth (kept t n) i);
          }
