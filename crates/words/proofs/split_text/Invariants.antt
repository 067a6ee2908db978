-- The words so far are stored, the last two are known, and what is left of the text gives the other words.
use Rattle.std.proofs.Common.{length}
use Rattle.words.proofs.Splitting.{Splitting}
use Rattle.words.proofs.split_text.Given as goal

abbrev pub invariant-loop-rest : goal.invariant-loop-rest
invariant-loop-rest l = Splitting l.context l.text l.initial.out l.out l.before l.last l.count l.rest

abbrev pub decreases-loop-rest : goal.decreases-loop-rest
decreases-loop-rest l = length l.rest
