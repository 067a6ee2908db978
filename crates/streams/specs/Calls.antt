-- That a system call was made. What the system does cannot be defined, so `ReadMade` and `WriteMade` say nothing, and
-- are shut: no other file can unfold them. Nor can another crate use `read_made` and `write_made`, since these ask for
-- a `Call`, a type that this crate keeps to itself. So in another crate `Came` and `Wrote` can be had only from a call
-- of `read` or `write`.
use Rattle.std.specs.Prelude.{List, ℕ, ◌≤◌, length}
use Rattle.streams.specs.declared.Call.{Call}

pub ReadMade : (at : ℕ) (c : List ℕ) → Type 0
ReadMade at c = Unit

pub read_made : Call → (at : ℕ) (c : List ℕ) → ReadMade at c
unfolding ReadMade
read_made call at c = tt

pub WriteMade : (at : ℕ) (o : List ℕ) (k : ℕ) → Type 0
WriteMade at o k = Unit

pub write_made : Call → (at : ℕ) (o : List ℕ) (k : ℕ) → WriteMade at o k
unfolding WriteMade
write_made call at o k = tt

-- A read brought the bytes c, after `at` bytes of the input: no bytes at its end, and where the read failed
-- (SPEC 11.3).
pub record Came (at : ℕ) (c : List ℕ) : Type 0 where
  pub call : ReadMade at c

-- A write was handed the bytes o, after `at` bytes of the output, and took the first k of them: none where it failed
-- (SPEC 11.3).
pub record Wrote (at : ℕ) (o : List ℕ) (k : ℕ) : Type 0 where
  pub call : WriteMade at o k
  pub took : k ≤ length o
