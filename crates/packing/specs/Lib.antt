-- Packing a table: what the packed table is, what packing does, and what it owes.
pub mod Operands
pub mod Search
pub mod Pack
pub mod Packing
pub mod Laws
