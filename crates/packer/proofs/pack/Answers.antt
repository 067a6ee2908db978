-- A table that fails its check is refused, and with one that passes the room decides. Either way the answer and the
-- second table are what packing owes.
use Rattle.std.proofs.Common.{◌≡◌, sym, ◌∙◌}
use Rattle.std.proofs.lemmas.Result.{err_from_is_err_and}
use Rattle.limits.specs.Limits.{velocity_count}
use Rattle.packing.specs.Packing.{after_pack, packing}
use Rattle.packer.proofs.Whole.{pack-refused, pack-passed, pack-owes}
use Rattle.packer.proofs.pack.Goals as goal

pub returns-in_err-check_table : goal.returns-in_err-check_table
returns-in_err-check_table c =
    let args = c.args in
    let p = err_from_is_err_and c.from_residual.result c.from_residual.ensures.1 in
    let e : after_pack c.from_residual.result args.second.now
    ≡ packing velocity_count args.table.now args.n args.second.now =
    rw (p.1, p.2) (pack-refused _ _ _ _ _ (sym c.in_err-check_table.ensures)) in
    record { second_after = e; pack_answer = pack-owes _ _ _ _ e }

pub returns : goal.returns
returns c =
    let e = c.pack_checked.ensures ∙ pack-passed _ _ _ _ (sym c.in_ok-check_table.ensures) in
    record { second_after = e; pack_answer = pack-owes _ _ _ _ e }
