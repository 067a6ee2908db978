-- What the contracts of the exported functions cite.
pub mod Face
pub mod Sizes
