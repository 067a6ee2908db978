-- The first line, the equations' lines and the last lines are placed, each in the tail that the one before leaves.
use Rattle.lustre_write.proofs.Writing.{text_placed}
use Rattle.lustre_write.proofs.write_text.Goals as goal

pub returns : goal.returns
returns c =
    text_placed _ _ _ _ c.only.result c.last_two.result c.write_form-p.ensures
    c.min-q.ensures c.write_lines.ensures c.min-u.ensures c.last_two.ensures c.write_form.ensures
