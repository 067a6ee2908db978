-- Equation tables as Lustre text. Text, Write and Read, over Numerals, are what the public contracts say. Form and Scan
-- are what the writer and the reader agree on.
pub mod Numerals
pub mod Text
pub mod Write
pub mod Read
pub mod Form
pub mod Scan
pub mod Sizes
