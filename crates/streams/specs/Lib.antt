-- That a read and a write were made.
pub mod Calls
