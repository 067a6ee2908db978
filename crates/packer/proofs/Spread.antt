-- The bucket of a key is below the number of buckets. Assumes nothing.
use Prim.Native.Nat.{ℕ, ◌+◌, ◌*◌, ◌%◌, ◌<◌}
use native.Mathlib.Omega.{arith}
use native.Mathlib.Nat.{mod-lt, mul-lt-mul_of_pos_right}
use Rattle.packer.specs.Round.{spread, factor, bucket_of}
use Rattle.tables.specs.declared.Equation.{Equation}

-- A part below `spread`, times n.
pub part_below : (x n : ℕ) → 0 < n → (x % spread) * n < spread * n
part_below x n h = mul-lt-mul_of_pos_right (mod-lt x (omega arith)) h

-- So its share of n is below n.
pub bucket-below : (n : ℕ) (e : Equation) → 0 < n → bucket_of n e < n
unfolding bucket_of
bucket-below n e h =
    omega (arith, part_below ((e.kind + 13 * e.a + 101 * e.b + 257 * e.c) * factor) n h)
