-- What a piece of a card does, and pieces put together.
pub mod Feed
pub mod Pieces
