-- The text of a table of numbers of 32 bits is short.
use Rattle.std.proofs.Common.{arith}
use Rattle.firmware.proofs.Sizes.{written_small}
use Rattle.firmware.proofs.towerwatch_write_lustre.Goals as goal

pub narrow-requires : goal.narrow-requires
narrow-requires c =
    written_small c.args.table.now (λ i. omega (arith, c.type_inv.table i)) _ _ _ _ _ c.write_lustre.ensures
