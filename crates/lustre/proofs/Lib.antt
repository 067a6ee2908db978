-- Laws of texts, forms and tables, and what holds of writing and reading together.
pub mod Differ
pub mod Numerals
pub mod Scans
pub mod Values
pub mod Forms
pub mod Parts
pub mod Tables
pub mod Theorems
pub mod Sizes
pub mod Examples
