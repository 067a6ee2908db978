-- What a line of a card is, and what it says.
pub mod Heads
pub mod Numbers
pub mod Lines
pub mod Ticks
pub mod Says
pub mod Place
