-- Definitions on lists that several crates cite.
pub mod Text
pub mod Number
pub mod Same
pub mod All
pub mod Line
pub mod Decimal
pub mod Place
