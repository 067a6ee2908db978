-- The first k digits stand in the table.
use Rattle.std.proofs.Common.{◌≡◌}
use Rattle.cards.proofs.Hex.{filled}
use Rattle.cards.proofs.hex_digits.Given as goal

abbrev pub invariant-loop-k : goal.invariant-loop-k
invariant-loop-k l = l.values ≡ filled l.digits l.k
