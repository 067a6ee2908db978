-- Laws behind the functions' proofs, and laws of lines and of what they say.
pub mod Lines
pub mod Front
pub mod Editions
pub mod Numbers
pub mod Reading
pub mod Hex
pub mod Ticks
pub mod Bits
pub mod Sized
pub mod Velocities
pub mod Stages
pub mod Rows
