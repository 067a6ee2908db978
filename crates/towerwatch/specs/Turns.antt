-- The program's turns, each of a read and of writes. Definitions only. That a read brought some bytes and that a write
-- took some can only be had from the calls (`Came` and `Wrote` of the crate streams); that a turn's writes are what its
-- read prints is `Takes` (Run.antt).
use Rattle.std.specs.Prelude.{List, [], ◌++◌, Bool, true, false, ℕ, ◌+◌, ◌<◌, length, drop}
use Rattle.streams.specs.Calls.{Came, Wrote}
use Rattle.towerwatch.specs.declared.Stand.{Stand}
use Rattle.towerwatch.specs.declared.Stand.TheVariants as S

-- Whether all that was handed over was taken.
abbrev pub is_done : Stand → Bool
is_done S.Reading = true
is_done S.Ended = true
is_done S.Over = true
is_done S.Stuck = false

-- SPEC 11.3, writes: the bytes o are handed to them, after `at` bytes of the output, to each of them all that the one
-- before did not take: until all are taken (true), or until a write takes none (false).
pub data Handed : ℕ → List ℕ → Bool → Type 0 where
  all : {at : ℕ} → Handed at [] true
  some : {at k : ℕ} {o : List ℕ} {done : Bool} → Wrote at o k → 0 < k → Handed (at + k) (drop k o) done
      → Handed at o done
  none : {at : ℕ} {o : List ℕ} → Wrote at o 0 → 0 < length o → Handed at o false

-- SPEC 11.2, pieces: turns one after another. Reads brought the bytes i, and the bytes o were handed to writes, the
-- last of them all taken or not. A turn after one in which a write took none there is not.
pub data Turned : List ℕ → List ℕ → Bool → Type 0 where
  start : Turned [] [] true
  turn : {i o c p : List ℕ} {done : Bool} → Turned i o true → Came (length i) c → Handed (length o) p done
      → Turned (i ++ c) (o ++ p) done
