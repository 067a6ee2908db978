-- Packing a table (SPEC 8.8): the whole effect of a call as one record. Definitions only.
use Rattle.std.specs.Prelude.{List, [], ◌∷◌, ◌++◌, ℕ, ◌*◌, leb, length, drop}
use Rattle.std.specs.Prelude.{Ok, Err}
use Rattle.limits.specs.Limits.{table_room}
use Rattle.limits.specs.Reply.{Reply, refused, gives}
use Rattle.limits.specs.Refusal.{number}
use Rattle.limits.specs.declared.Refusal.TheVariants.{ShortTable}
use Rattle.tables.specs.Table.{Test, test, Checked, first_failed, table_tests}
use Rattle.packing.specs.Laws.{Packed}
use Rattle.packing.specs.Pack.{packed, packed_count}

-- SPEC 8.8: the result is the packed table's n.
abbrev pub pack_reply : Packed → Reply
pack_reply (Ok n) = gives n
pack_reply (Err r) = refused (number r)

-- The test of refusal 9 (SPEC 7.9): the second table is long enough.
abbrev pub room_test : List ℕ → Test
room_test second = test ShortTable (leb table_room (length second))

-- SPEC 8.8: the refusals in order, those of the table, where there are so many velocities, and then 9.
abbrev pub pack_tests : ℕ → List ℕ → ℕ → List ℕ → List Test
pack_tests velocities t n second = table_tests velocities t n ++ (room_test second ∷ [])

-- The first refusal that applies, or none.
unfoldable pub pack_checked : ℕ → List ℕ → ℕ → List ℕ → Checked
pack_checked velocities t n second = first_failed (pack_tests velocities t n second)

-- What packing answers, and the second table that it leaves.
pub record AfterPack : Type 0 where
  pub answer : Packed
  pub second : List ℕ

abbrev pub after_pack : Packed → List ℕ → AfterPack
after_pack r second = record { answer = r; second = second }

-- The packed table at the front of the second one. What stands behind it is kept (SPEC 1.5).
unfoldable pub after_packing : List ℕ → ℕ → List ℕ → AfterPack
after_packing t n second =
    after_pack (Ok (packed_count t n)) (packed t n ++ drop (4 * packed_count t n) second)

-- SPEC 1.4: a refusal keeps the second table.
abbrev pub packing_if : Checked → List ℕ → ℕ → List ℕ → AfterPack
packing_if (Ok tt) t n second = after_packing t n second
packing_if (Err r) t n second = after_pack (Err r) second

-- SPEC 8.8: the whole effect of packing.
unfoldable pub packing : ℕ → List ℕ → ℕ → List ℕ → AfterPack
packing velocities t n second = packing_if (pack_checked velocities t n second) t n second
