-- From the answer as it is computed follows the answer as SPEC 8.1 has it.
use Rattle.std.proofs.lemmas.Result.{err_from_is_err_and}
use Rattle.limits.specs.Context.{standard_context}
use Rattle.rules.proofs.Laid.{standard-laid, answer-refused, answer-rule}
use Rattle.rules.proofs.Theorems.{told}
use Rattle.rules.proofs.read_rule.Goals as goal

pub returns-in_err-records-clause-told : goal.returns-in_err-records-clause-told
returns-in_err-records-clause-told c =
    let p = err_from_is_err_and c.from_residual.result c.from_residual.ensures.1 in
    let laid = standard-laid c.standard.ensures _ c.read_tree.ensures in
    rw (p.1, p.2) (told standard_context c.args.text.now _ (answer-refused laid c.in_err-records.was))

pub returns-clause-told : goal.returns-clause-told
returns-clause-told c =
    let laid = standard-laid c.standard.ensures _ c.read_tree.ensures in
    told standard_context c.args.text.now _ (answer-rule laid c.in_ok-records.was)
