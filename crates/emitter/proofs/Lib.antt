-- Why the pass gives the observer's equations: laws that the functions' proofs cite, and `Size` for callers.
pub mod Equations
pub mod Entry
pub mod Records
pub mod Header
pub mod Named
pub mod Pass
pub mod Whole
pub mod Size
