-- Equation tables: what an equation is, its kinds by their numbers, and which tables are well formed.
pub mod Kind
pub mod Table
pub mod Reply
