-- The splitter's words are the outcome's.
use Rattle.std.proofs.Common.{subst, arith}
use Rattle.std.proofs.lemmas.Result.{err_from_is_err_and}
use Rattle.rules.specs.Reading.{Outcome}
use Rattle.rules.specs.Laid.{Laid}
use Rattle.rules.proofs.Laid.{laid-refused}
use Rattle.rules.proofs.Outcomes.{made_of, refused-of, of-front}
use Rattle.rules.proofs.read_tree.Goals as goal

pub returns-in_err-n : goal.returns-in_err-n
returns-in_err-n c =
    let p = err_from_is_err_and c.from_residual.result c.from_residual.ensures.1 in
    rw (p.1, p.2) (laid-refused _ (refused-of c.split_text.ensures c.in_err-n.was))

pub returns : goal.returns
returns c =
    let words = made_of c.split_text.ensures c.in_ok-n.was in
    let r = c.read_words in
    subst (λ (o : Outcome). Laid o c.args.arena.now r.result r.new.arena) (of-front words (omega arith)) r.ensures
