-- Read in this order.
-- Formats: how values are written as bytes and read back, each built from smaller ones.
pub mod Formats
-- Checkpoint: the table of a checkpoint's body.
pub mod Checkpoint
-- Counts: how many data a body has, and whether its sums fit them.
pub mod Counts
-- State: what a checkpoint is, and why bytes are refused.
pub mod State
-- Points: the body of a state of a run.
pub mod Points
-- Laws: what is proved of these.
pub mod Laws
-- Heads: the head of a body.
pub mod Heads
-- Seen: a node as a checkpoint has it.
pub mod Seen
-- Reading: what a reader answers.
pub mod Reading
-- Views: what a part that was read means.
pub mod Views
