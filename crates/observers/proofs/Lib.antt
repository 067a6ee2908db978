-- SPEC 12.3 (demand 3) from the text on, what follows from it, and how many equations a rule has at most.
pub mod Demand
pub mod Widest
pub mod Reached
pub mod SameRule
pub mod Own
pub mod Runs
