-- Packing as a whole: what a table that passes its check gives the parts, and that their results together are what
-- packing does. Assumes nothing.
use mathlib.Core.Path.{◌≡◌, refl, ◌∙◌, sym, subst}
use mathlib.Core.List.{List, ◌++◌}
use Prim.Native.Nat.{ℕ, ◌*◌, ◌≤◌, ◌<◌}
use native.Mathlib.Omega.{arith}
use native.Mathlib.Nat.{zero-add}
use lib.ListN.{length, drop}
use lib.Seq.{sets, sets-eq}
use borrow.Author.Tests.{le-leb}
use Rattle.lists.specs.Number.{number_at}
use Rattle.limits.specs.Limits.{table_room}
use Rattle.tables.specs.Table.{checked, closing_count}
use Rattle.tables.proofs.Checks.{checked-fitting, refused-table}
use Rattle.packing.specs.Pack.{classes, kept, packed, packed_count}
use Rattle.packing.specs.Packing.{AfterPack, after_pack, after_packing, pack_checked, packing}
use Rattle.packing.specs.Laws.{Packed, PackAnswer}
use Rattle.packing.proofs.Searches.{count-le}
use Rattle.packing.proofs.Result.{length-packed}
use Rattle.packing.proofs.Packs.{room-decides, pack-answers}
use Rattle.packer.specs.Round.{Fitted}
use Rattle.packer.specs.Place.{filled, Passing, packed_into}
use Rattle.packer.proofs.Filled.{length-filled, filled_at}
use Rattle.std.specs.Prelude.{Ok, Err}
use Rattle.limits.specs.declared.Refusal.{Refusal}

-- A table that passes its check fits, and has two equations to close it.
pub fitted : (t : List ℕ) (n : ℕ) → Passing t n → Fitted t n
fitted t n P =
    let f = checked-fitting P.velocities t n P.passed in
    record { velocities = P.velocities; few = f.few; whole = f.whole; equations = f.equations }

pub closed : (t : List ℕ) (n : ℕ) → Passing t n → closing_count ≤ n
closed t n P = (checked-fitting P.velocities t n P.passed).closed

-- What a function leaves that fills the first n numbers of a buffer.
pub filled-by : (f : ℕ → ℕ) (n : ℕ) (l : List ℕ) {l' : List ℕ} → l' ≡ filled f n l → n ≤ length l
    → (n ≤ length l') × ((i : ℕ) → i < n → number_at l' i ≡ f i)
filled-by f n l e h = rw e (rw (length-filled f n l) h, λ i u. filled_at f n l i u h)

-- Packing a table that passes its check: where there is room, the packed table is stored at the front.
module _ (t : List ℕ) (n : ℕ) (second : List ℕ) where
  pub pack-stored : Passing t n → table_room ≤ length second → {after : List ℕ} {size : ℕ}
      → (size ≡ packed_count t n) × (after ≡ sets second 0 (packed t n))
      → after_pack (Ok size) after ≡ packed_into t n second
  unfolding after_packing
  pack-stored P l (h, e) =
      let few = (fitted t n P).few in
      let long = length-packed t (classes t n) (kept t n) n in
      let less = count-le (kept t n) n in
      let front : sets second 0 (packed t n) ≡ packed t n ++ drop (4 * packed_count t n) second =
      sets-eq (packed t n) second 0 (omega arith) ∙ rw (zero-add, long) in
      rw (le-leb table_room (length second) l) (λ a. after_pack (Ok (h a)) ((e ∙ front) a))

module _ (velocities : ℕ) (t : List ℕ) (n : ℕ) (second : List ℕ) where
  -- A table that fails its check is refused by that number, and with one that passes the room decides.
  pub pack-refused : (r : Refusal) → checked velocities t n ≡ Err r
      → after_pack (Err r) second ≡ packing velocities t n second
  unfolding packing pack_checked
  pack-refused r e = rw (refused-table velocities t n r _ e)

  pub pack-passed : checked velocities t n ≡ Ok tt → packed_into t n second ≡ packing velocities t n second
  unfolding packing
  pack-passed passed = rw (room-decides velocities t n second passed _ refl)

  -- So the answer and the second table are what packing owes.
  pub pack-owes : {r : Packed} {after : List ℕ} → after_pack r after ≡ packing velocities t n second
      → PackAnswer velocities t n second r after
  pack-owes e =
      subst (λ (x : AfterPack). PackAnswer velocities t n second x.answer x.second) (sym e)
      (pack-answers velocities t n second)
