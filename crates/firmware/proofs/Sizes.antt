-- Compiled, loaded and packed tables have at most 4,096 equations, and a table's text is short: C's answer has room for
-- each number. Assumes nothing.
use mathlib.Core.List.{List, []}
use mathlib.Core.Path.{◌≡◌, sym, ap}
use Prim.Native.Nat.{ℕ, ◌<◌}
use native.Mathlib.Omega.{arith}
use lib.ListN.{get_or}
use Rattle.std.specs.Prelude.{Ok, Err}
use Rattle.limits.specs.declared.Context.{Context}
use Rattle.tables.proofs.Checks.{checked-fitting}
use Rattle.lustre.specs.Write.{Written, AfterWrite, after_write, write_effect}
use Rattle.lustre.specs.Read.{Loaded, AfterRead}
use Rattle.lustre.specs.Read.AfterRead.{unread, no_room as no_table, read}
use Rattle.lustre.proofs.Sizes.{written-few}
use Rattle.observers.specs.Demand.{Compiles}
use Rattle.observers.specs.Demand.Compiles.{not-read, no_room, observed}
use Rattle.observers.specs.Demand.{Compiled}
use Rattle.packing.specs.Laws.{Packed, PackAnswer}
use Rattle.packing.specs.Laws.PackAnswer.{not-checked, no_room as no_second, packed}
use Rattle.firmware.specs.Sizes.{small}

pub compiled_small : {context : Context} {text before : List ℕ} {r : Compiled} {after : List ℕ}
    → Compiles context text before r after → small r
compiled_small (not-read e) = tt
compiled_small (no_room e h) = tt
compiled_small (observed {n} {after} e f room few same rest h exact ends) =
    omega (arith, (checked-fitting _ _ n (h []).formed).few)

pub loaded_small : {velocities : ℕ} {text before : List ℕ} {r : Loaded} {after : List ℕ}
    → AfterRead velocities text before r after → small r
loaded_small (unread h) = tt
loaded_small (no_table w h) = tt
loaded_small (read {t} {n} w h) = omega (arith, (checked-fitting _ t n w.well-formed).few)

pub packed_small : {velocities : ℕ} {t : List ℕ} {n : ℕ} {before : List ℕ} {r : Packed} {after : List ℕ}
    → PackAnswer velocities t n before r after → small r
packed_small (not-checked e) = tt
packed_small (no_second e h) = tt
packed_small (packed {n'} e room long kept packs) =
    omega (arith, (checked-fitting _ _ n' ((packs []).passes _ e)).few)

pub written_small : (t : List ℕ) → ((i : ℕ) → get_or t i 0 < 4294967296) → (velocities n : ℕ) (buffer : List ℕ)
    (r : Written) (after : List ℕ) → after_write r after ≡ write_effect velocities t n buffer → small r
written_small t bits velocities n buffer (Ok l) after e =
    written-few t bits velocities n l buffer (sym (ap (λ (x : AfterWrite). x.answer) e))
written_small t bits velocities n buffer (Err k) after e = tt
