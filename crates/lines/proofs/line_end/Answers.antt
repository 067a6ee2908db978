-- A line ends within its text (`line-fits`).
use Rattle.std.proofs.Common.{arith}
use Rattle.lists.proofs.Lines.{line-fits}
use Rattle.lines.proofs.line_end.Goals as goal

pub overflow_add-result : goal.overflow_add-result
overflow_add-result c = omega (arith, line-fits _ _ c.requires)

pub returns : goal.returns
returns c = omega (arith, line-fits _ _ c.requires)
