-- Read in this order.
-- Reading: what a reader answers that asks for memory.
pub mod Reading
-- Stores: how a store grows while it is read.
pub mod Stores
-- Nodes: a node that was read from a checkpoint.
pub mod Nodes
-- RadioParts: the links and the copies in flight, as a checkpoint lists them.
pub mod RadioParts
-- Kept: what a store has after a part was read into it.
pub mod Kept
