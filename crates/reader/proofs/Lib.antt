-- Laws behind the functions' proofs.
pub mod Part
