-- The text of the form's first bytes is placed.
use Rattle.std.proofs.Common.{◌*◌, take}
use Rattle.lustre.specs.Form.{render}
use Rattle.lustre_write.specs.Placed.{Placed, piece_room}
use Rattle.lustre_write.proofs.write_form.Given as goal

abbrev pub invariant-loop-x : goal.invariant-loop-x
invariant-loop-x l =
    Placed (piece_room * l.x-index) (render l.e (take l.x-index l.form)) l.initial.out l.out l.at
