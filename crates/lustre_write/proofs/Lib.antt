-- Laws of placing texts, and what writing leaves.
pub mod Placing
pub mod Writing
