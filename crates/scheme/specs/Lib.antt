-- The observer of a formula: the rows of each node, and the equations that they give.
pub mod Scheme
pub mod Emit
