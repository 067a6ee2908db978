-- What the proofs of several functions use; callers use Stored.
pub mod Stored
mod Chains
mod Steps
