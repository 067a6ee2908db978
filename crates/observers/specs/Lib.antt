-- Compiling a rule text: what it does, and demand 3 of it (SPEC 12.3).
pub mod Compile
pub mod Demand
