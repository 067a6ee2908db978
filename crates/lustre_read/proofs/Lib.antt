-- Laws of reading numbers, forms, lines and the whole text.
pub mod Reading
pub mod Lined
pub mod Whole
pub mod Answers
