-- What a table of equations does: its flows, a fresh state, a step, and runs of them.
pub mod Flow
pub mod Step
pub mod Run
pub mod Lustre
