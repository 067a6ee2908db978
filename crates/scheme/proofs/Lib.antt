-- What the equations of an observer are, tick by tick: well formed, few, with as many memories as its nodes ask for,
-- and in all flows that satisfy them each node's result is its meaning from the latest start on. What that is over
-- lists of calls is `agreement`'s.
--
-- Intervals, and equations at their places:
pub mod Offsets
pub mod Places
-- From flows that satisfy their equations to the meaning:
pub mod Local
pub mod Caps
pub mod Atoms
pub mod Lag
pub mod Then
pub mod Nodes
pub mod Starts
pub mod Closing
-- The emitted equations are well formed, few enough, and have exactly so many memories:
pub mod Roles
pub mod Rows
pub mod Blocks
pub mod Header
pub mod Parts
pub mod Formed
pub mod Sizes
pub mod Counts
pub mod Memories
-- The nodes that the code has:
pub mod ByKind
