-- The form of the equation is short enough, and what is placed of it is the equation's text.
use Rattle.std.proofs.Common.{ap, ◌∙◌}
use Rattle.lustre.specs.Form.{Form}
use Rattle.lustre_write.proofs.Placing.{placed_as}
use Rattle.lustre_write.proofs.Writing.{fetched_short, fetched_text}
use Rattle.lustre_write.proofs.write_end.Goals as goal

pub write_form-requires : goal.write_form-requires
write_form-requires c =
    let text = c.text.ensures ∙ ap (λ (x : Form). x.text) c.form_at.ensures in
    fetched_short c.args.e c.form_of.result _ c.requires c.form_of.ensures text

pub returns : goal.returns
returns c =
    let text = c.text.ensures ∙ ap (λ (x : Form). x.text) c.form_at.ensures in
    placed_as (fetched_text c.args.e c.form_of.result _ c.requires c.form_of.ensures text) c.write_form.ensures
