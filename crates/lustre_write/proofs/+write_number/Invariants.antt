-- Each call is given a smaller number.
use Rattle.lustre_write.proofs.+write_number.Given as goal

abbrev pub decreases-write_number : goal.decreases-write_number
decreases-write_number l = l.x
