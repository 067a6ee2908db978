-- A table that the text proposes and that passes its check writes the text; if it fails, no table does.
use Rattle.std.proofs.Common.{arith}
use Rattle.std.proofs.lemmas.Grind.{common_steps}
use Rattle.lustre_read.proofs.Answers.{can_propose, ill_formed}
use Rattle.lustre_read.proofs.read_table.Goals as goal

pub returns-in_err-n : goal.returns-in_err-n
returns-in_err-n c =
    rw c.from_residual.ensures (λ t n s. c.in_err-n.ensures t n (can_propose c.requires.0 s))

pub returns-in_err-ok : goal.returns-in_err-ok
returns-in_err-ok c =
    rw c.from_residual-in_err-ok.ensures
    (ill_formed c.requires.0 c.in_ok-n.ensures (omega arith) (λ e. grind (arith, common_steps)))
