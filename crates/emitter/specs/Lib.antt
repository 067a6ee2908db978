-- Compiling a tree's records to an equation table: what the pass does, and what its functions promise.
pub mod Machine
pub mod Contract
