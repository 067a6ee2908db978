-- A number is read where a letter stands.
use Rattle.std.proofs.Common.{sym, ◌∙◌}
use Rattle.lustre_read.proofs.Reading.{piece_number}
use Rattle.lustre_read.proofs.scan_piece.Goals as goal

pub returns-then-is_letter : goal.returns-then-is_letter
returns-then-is_letter c =
    piece_number c.args.x c.args.text.now c.args.p _ c.in-Is.value c.in-Is.next _
    (sym c.is_letter.ensures ∙ c.if-is_letter.true) c.in-Is.ensures c.put_in.ensures
