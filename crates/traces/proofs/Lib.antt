-- Laws on ticks and comparisons, and rows.
pub mod Laws
pub mod Rows
