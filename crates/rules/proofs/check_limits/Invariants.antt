-- The brackets open and the words counted before a word.
use Rattle.rules.proofs.Passes.{Passed}
use Rattle.rules.proofs.check_limits.Given as goal

abbrev pub invariant-loop-w : goal.invariant-loop-w
invariant-loop-w l = Passed l.ws l.depth l.n l.w-index
