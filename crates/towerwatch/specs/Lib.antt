-- What the program's turns and its whole run promise.
pub mod Turns
pub mod Program
pub mod Run
