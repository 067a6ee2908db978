-- Laws for the functions of packing.
pub mod Filled
pub mod Cleared
pub mod Quick
pub mod Buckets
pub mod Spread
pub mod Turns
pub mod Rounds
pub mod Marks
pub mod Reaching
pub mod Places
pub mod Emits
pub mod Whole
