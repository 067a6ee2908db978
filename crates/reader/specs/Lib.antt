-- Which part of a card is the rule text.
pub mod Part
