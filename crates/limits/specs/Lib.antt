-- The numbers that several crates name, and the reply that all operations give.
pub mod Limits
pub mod Context
pub mod Reply
pub mod Refusal
