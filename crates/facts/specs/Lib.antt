-- What the parser tells of a tree besides its records.
pub mod Facts
