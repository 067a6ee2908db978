-- What is promised is so.
pub mod Kept
