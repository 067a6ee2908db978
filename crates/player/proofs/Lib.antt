-- Laws behind the functions' proofs, and the theorem on what every card prints.
pub mod Playing
pub mod Printing
pub mod Reaching
pub mod Paying
pub mod Closing
pub mod Meant
pub mod Showing
pub mod Shown
pub mod Rows
