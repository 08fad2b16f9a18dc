-- Read in this order.
-- Frames: what a capture holds of one copy, and the header of the file.
pub mod Frames
-- Copies: what the lines of a printed text say about copies.
pub mod Copies
-- Captures: the capture of a whole text.
pub mod Captures
-- Runs: the packets of a run.
pub mod Runs
-- Outputs: what is written and answered.
pub mod Outputs
-- Causes: when a fault is answered.
pub mod Causes
-- Codes: the status of an answer, and the status with which the process ends.
pub mod Codes
-- Laws: the statements that are proved of these definitions.
pub mod Laws
-- Kept: how long packets are, and how many lines are read.
pub mod Kept
