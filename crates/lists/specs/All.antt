-- A test of each number below a bound. Definitions only.
use Rattle.std.specs.Prelude.{Bool, true, ◌&&◌, ℕ, zero, suc}

-- The test holds of each number below k.
unfoldable pub all : (ℕ → Bool) → ℕ → Bool
all f zero = true
all f (suc k) = all f k && f k
