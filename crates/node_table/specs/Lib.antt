-- The nodes of the observer scheme as the code's table.
pub mod Table
