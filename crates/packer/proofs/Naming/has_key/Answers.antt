-- Another kind is another key, and where the kinds are the same the keys decide.
use Rattle.packing.specs.Pack.{same_equation}
use Rattle.packer.specs.Round.{mixed}
use borrow.Author.Tests.{ne_eqb}
use Rattle.packer.proofs.Naming.has_key.Goals as goal

pub returns-then-self-j : goal.returns-then-self-j
unfolding same_equation
returns-then-self-j c = rw (← c.key_at.ensures) c.eq.ensures

pub returns-else-self-j : goal.returns-else-self-j
unfolding same_equation mixed
returns-else-self-j c = rw (ne_eqb _ _ c.if-self-j.false)
