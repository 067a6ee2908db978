-- The numbers below a bound that pass a test: the first of them, whether there are some, and how many. Definitions
-- only.
use Rattle.std.specs.Prelude.{Bool, false, ◌||◌, cond, ℕ, zero, suc}

-- The first number below k that passes, or k.
unfoldable pub first : (ℕ → Bool) → ℕ → ℕ
first f zero = zero
first f (suc k) = cond (f (first f k)) (first f k) (suc k)

-- Some number below k passes.
unfoldable pub some : (ℕ → Bool) → ℕ → Bool
some f zero = false
some f (suc k) = some f k || f k

-- How many numbers below k pass.
unfoldable pub count : (ℕ → Bool) → ℕ → ℕ
count f zero = zero
count f (suc k) = cond (f k) (suc (count f k)) (count f k)
