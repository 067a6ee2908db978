-- A form that is found gives its equation's text; where none of all forms is found, no equation's text stands there.
use Rattle.std.proofs.Common.{◌<◌, arith}
use Rattle.lustre.specs.Form.{form_count}
use Rattle.lustre.proofs.Values.{values_length, value_at}
use Rattle.lustre_read.proofs.Lined.{none_more, end_none, end_found}
use Rattle.lustre_read.proofs.read_end.Goals as goal

pub returns-in-Some : goal.returns-in-Some
returns-in-Some c =
    let fs = c.all_forms-form-items in
    let here : c.loop-form.form-index < form_count = omega (arith, values_length fs.result.now fs.ensures) in
    end_found c.args.text.now c.args.p c.loop-form.form-index c.in-Some.found.next _
    c.in-Some.found.numbers here (value_at fs.result.now c.loop-form.form-index fs.ensures here)
    (rw c.text.ensures at c.in-Some.ensures)

pub loop-form-preserved : goal.loop-form-preserved
loop-form-preserved c =
    let fs = c.all_forms-form-items in
    let here : c.loop-form.form-index < form_count = omega (arith, values_length fs.result.now fs.ensures) in
    none_more c.args.text.now c.args.p c.loop-form.form-index _
    (value_at fs.result.now c.loop-form.form-index fs.ensures here) c.loop-form.invariant
    (rw c.text.ensures at c.in_default.ensures)

pub returns : goal.returns
returns c =
    let fs = c.all_forms-form-items in
    end_none c.args.text.now c.args.p
    (λ g h. c.loop-form.invariant g (omega (arith, values_length fs.result.now fs.ensures)))
