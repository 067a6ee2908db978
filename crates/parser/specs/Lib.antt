-- What the parse functions answer and leave in the arena.
pub mod Contract
