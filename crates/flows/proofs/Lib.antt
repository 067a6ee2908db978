-- Laws of flows: buffers, checks, ranges, and that a run satisfies its equations.
pub mod Buffers
pub mod Checks
pub mod Ranges
pub mod Runs
pub mod Lists
pub mod Answers
pub mod Expected
mod Rows
