-- Operations whose result is a number: their replies, and the numbers that C's answer has room for. Definitions only.
use Rattle.std.specs.Prelude.{◌≤◌, ℕ, Result, Ok, Err}
use Rattle.limits.specs.Refusal.{number}
use Rattle.limits.specs.Reply.{Reply, refused, gives}
use Rattle.limits.specs.declared.Refusal.{Refusal}
use Rattle.lustre.specs.Sizes.{length_limit}

-- The reply of such an operation.
abbrev pub number_reply : Result ℕ Refusal → Reply
number_reply (Ok n) = gives n
number_reply (Err r) = refused (number r)

-- Its result, if there is one, is no higher than the length of a text can be.
abbrev pub small : Result ℕ Refusal → Type 0
small (Ok n) = n ≤ length_limit
small (Err r) = Unit {0}
