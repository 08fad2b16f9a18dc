-- Read in this order.
-- Errors: what loading answers when a validation or a reader answers an error.
pub mod Errors
-- Nodes: the nodes of a checkpoint, and which of them are in order.
pub mod Nodes
-- Loading: why no run goes on from bytes that are refused.
pub mod Loading
-- RunStates: the states that a checkpoint holds in full.
pub mod RunStates
-- Parts: what a reader of a part of a body answers.
pub mod Parts
