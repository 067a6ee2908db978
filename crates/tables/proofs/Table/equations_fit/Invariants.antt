-- The equations so far fit.
use Rattle.std.proofs.Common.{◌≡◌, true}
use Rattle.tables.specs.Table.{all, equation_fits}
use Rattle.tables.proofs.Table.equations_fit.Given as goal

abbrev pub invariant-loop-i : goal.invariant-loop-i
invariant-loop-i l = all (equation_fits l.velocities l.self.numbers.now l.self.n) l.i ≡ true
