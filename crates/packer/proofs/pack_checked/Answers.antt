-- With too little room it refuses, and in buffers of either size the packed table is stored.
use native.Mathlib.Omega.{arith}
use Rattle.packer.proofs.Whole.{pack-stored, fitted}
use Rattle.packer.proofs.pack_checked.Goals as goal

pub pack_in-requires-else-n-le-RULE_EQUATIONS : goal.pack_in-requires-else-n-le-RULE_EQUATIONS
pack_in-requires-else-n-le-RULE_EQUATIONS c =
    (c.requires, omega arith, (fitted _ _ c.requires).few, omega arith)

pub returns-then-n-le-RULE_EQUATIONS : goal.returns-then-n-le-RULE_EQUATIONS
returns-then-n-le-RULE_EQUATIONS c =
    pack-stored _ _ _ c.requires (omega arith) c.pack_in.ensures

pub returns-else-n-le-RULE_EQUATIONS : goal.returns-else-n-le-RULE_EQUATIONS
returns-else-n-le-RULE_EQUATIONS c =
    pack-stored _ _ _ c.requires (omega arith) c.pack_in-else-n-le-RULE_EQUATIONS.ensures
