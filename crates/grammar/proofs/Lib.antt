-- The grammar's theorems (Theorems is what people read first), and what other crates use of their proofs.
pub mod Theorems
pub mod Position
pub mod Sound
pub mod Complete
pub mod Words
mod Lists
mod Hits
mod Fragment
mod Numbers
mod Names
