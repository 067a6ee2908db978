-- Laws of packing.
pub mod Searches
pub mod Keys
pub mod Classes
pub mod Marking
pub mod Bisimulation
pub mod Result
pub mod Answers
pub mod Packs
pub mod Twice
pub mod Rows
pub mod One
pub mod Again
