-- The lines that are printed (SPEC 10.10). Definitions only.
use Rattle.std.specs.Prelude.{cond, List, [], ◌∷◌, ◌++◌, ℕ, ◌/◌, ◌%◌, ltb}
use Rattle.lists.specs.Decimal.{digit}
use Rattle.lists.specs.Text.{line_end, bytes}
use Rattle.limits.specs.Refusal.{number}
use Rattle.player.specs.declared.Output.{Output}
use Rattle.player.specs.declared.Output.TheVariants as O

-- A refusal's number in decimal digits: it is 1 to 19. Of a longer number these would be the last two digits.
unfoldable pub refusal_digits : ℕ → List ℕ
refusal_digits r = cond (ltb r 10) (digit (r % 10) ∷ []) (digit (r / 10 % 10) ∷ digit (r % 10) ∷ [])

-- SPEC 10.10: the line of a verdict, which is one digit, and the line of a refusal.
unfoldable pub output_bytes : Output → List ℕ
output_bytes O.Quiet = []
output_bytes (O.Verdict v) = bytes "verdict=" ++ (digit (v % 10) ∷ line_end ∷ [])
output_bytes (O.Refused r) = bytes "refused=" ++ (refusal_digits (number r) ++ (line_end ∷ []))
