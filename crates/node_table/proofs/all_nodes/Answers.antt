-- The table computes to the scheme's nodes.
use Rattle.std.proofs.Common.{refl}
use Rattle.node_table.specs.Table.{node_table}
use Rattle.node_table.proofs.all_nodes.Goals as goal

pub returns : goal.returns
unfolding node_table
returns c = record { nodes = refl; rows = refl }
