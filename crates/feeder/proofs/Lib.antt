-- Laws behind the functions' proofs, and the theorem on cards in pieces.
pub mod Moving
pub mod Resuming
pub mod Feeding
pub mod TickRuns
pub mod Pieces
pub mod Ending
