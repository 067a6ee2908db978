-- Laws on bytes, runs, numbers and words, and what splitting a text gives.
pub mod Classes
pub mod Numbers
pub mod Runs
pub mod Spelling
pub mod Widths
pub mod Splitting
pub mod Bounds
pub mod Examples
