-- A number that is read is at most max, and fits beside its base. Bytes behind it, or behind one above max, make no
-- word.
use Rattle.std.proofs.Common.{arith}
use Rattle.words.proofs.Numbers.{number_small, number_rest, above_rest}
use Rattle.words.proofs.number.Goals as goal

pub overflow_add-result : goal.overflow_add-result
overflow_add-result c = omega (arith, number_small c.in-Is.ensures)

pub returns-in_default : goal.returns-in_default
returns-in_default c = number_rest _ c.in-Is.ensures (omega arith)

pub returns-in_default-2 : goal.returns-in_default-2
returns-in_default-2 c = above_rest _ c.in-Above.ensures (omega arith)
