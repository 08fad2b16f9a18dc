-- Read in this order.
-- Blocks: the node that an event has changed, and the block that shows it.
pub mod Blocks
-- Changes: what an event has changed of that node's block.
pub mod Changes
-- Forms: what is written below an event, the block or its changes.
pub mod Forms
-- Text: the text of a watched run, and its verdict.
pub mod Text
-- RunStates: the states of a watched run.
pub mod RunStates
-- Parts: what a watched run adds to the text of a run.
pub mod Parts
-- Laws: what is proved of these definitions.
pub mod Laws
-- Outputs: what a watched run has written and answered. The contract of `run` cites this.
pub mod Outputs
-- The last one says what the parts of a run do.
-- Lines: what one event comes to.
pub mod Lines
