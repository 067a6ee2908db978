-- That the node of a kind stands at its place of the table.
pub mod Found
