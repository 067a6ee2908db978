-- At each byte, one more is placed in the tail that those before left.
use Rattle.std.proofs.Common.{refl}
use Rattle.lustre_write.proofs.Placing.{form_none, form_more}
use Rattle.lustre_write.proofs.write_form.Goals as goal

pub loop-x-init : goal.loop-x-init
loop-x-init c = form_none _ c.args.form.now _

pub loop-x-preserved : goal.loop-x-preserved
loop-x-preserved c =
    form_more _ _ _ _ c.loop-x.invariant c.loop-x-test.true refl c.min-q.ensures c.write_piece-at.ensures
