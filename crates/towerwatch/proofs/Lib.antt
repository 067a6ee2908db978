-- Laws behind the proofs of the turns and of the whole run.
pub mod Handing
pub mod Joining
pub mod Progress
pub mod Showing
