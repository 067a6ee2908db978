-- The first side refused, the second refused, or two trees, whose records are compared, and then the values of the
-- parameters that they name. From the answer as it is computed follows the answer as SPEC 8.3 has it (Sameness).
use Rattle.std.proofs.Common.{refl, sym, ap, ◌∙◌, true, false, Ok, arith}
use Rattle.std.proofs.lemmas.Result.{err_from_is_err_and}
use Rattle.limits.specs.Context.{standard_context}
use Rattle.rules.proofs.Laid.{standard-side, front_of, refused_as}
use Rattle.rules.proofs.Sameness.{same_answer, compared, first_told, second_told}
use Rattle.rules.proofs.same_rule.Goals as goal

pub returns-in_err-n-clause-same_answer : goal.returns-in_err-n-clause-same_answer
returns-in_err-n-clause-same_answer c =
    let p = err_from_is_err_and c.from_residual.result c.from_residual.ensures.1 in
    let laid = standard-side c.standard-context.ensures c.args.ps.now _ c.read_side.ensures in
    rw (p.1, p.2) (first_told standard_context _ _ _ _ (refused_as laid c.in_err-n.was))

pub returns-in_err-m-clause-same_answer : goal.returns-in_err-m-clause-same_answer
returns-in_err-m-clause-same_answer c =
    let p = err_from_is_err_and c.from_residual-in_err-m.result c.from_residual-in_err-m.ensures.1 in
    let laid = standard-side c.standard-context.ensures c.args.ps.now _ c.read_side.ensures in
    let laid-2 = standard-side c.standard-context.ensures c.args.qs.now _ c.read_side-2.ensures in
    let first = front_of laid (omega arith) c.in_ok-n.was in
    rw (p.1, p.2) (second_told standard_context _ _ _ _ first.is (refused_as laid-2 c.in_err-m.was))

pub returns-then-eq-clause-value : goal.returns-then-eq-clause-value
returns-then-eq-clause-value c =
    let laid = standard-side c.standard-context.ensures c.args.ps.now _ c.read_side.ensures in
    let laid-2 = standard-side c.standard-context.ensures c.args.qs.now _ c.read_side-2.ensures in
    let first = front_of laid (omega arith) c.in_ok-n.was in
    let second = front_of laid-2 (omega arith) c.in_ok-m.was in
    compared _ _ first second true _ c.eq.ensures c.if-eq.true (sym c.values_agree.ensures)

pub returns-then-eq-clause-same_answer : goal.returns-then-eq-clause-same_answer
returns-then-eq-clause-same_answer c = same_answer standard_context _ _ _ _ _ (returns-then-eq-clause-value c)

pub returns-else-eq-clause-value : goal.returns-else-eq-clause-value
returns-else-eq-clause-value c =
    let laid = standard-side c.standard-context.ensures c.args.ps.now _ c.read_side.ensures in
    let laid-2 = standard-side c.standard-context.ensures c.args.qs.now _ c.read_side-2.ensures in
    let first = front_of laid (omega arith) c.in_ok-n.was in
    let second = front_of laid-2 (omega arith) c.in_ok-m.was in
    ap Ok c.if-eq.false
    ∙ compared _ _ first second false _ c.eq.ensures c.if-eq.false refl

pub returns-else-eq-clause-same_answer : goal.returns-else-eq-clause-same_answer
returns-else-eq-clause-same_answer c = same_answer standard_context _ _ _ _ _ (returns-else-eq-clause-value c)
