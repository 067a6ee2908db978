-- Laws on lists and buffers, and what is known in the loops over them.
pub mod Choice
pub mod Buffers
pub mod Same
pub mod All
pub mod Fours
pub mod Lines
pub mod Decimals
