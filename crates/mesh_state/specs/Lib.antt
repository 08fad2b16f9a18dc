-- Read in this order.
-- Words: what the words of the command line ask for.
pub mod Words
-- Codes: the status with which the process ends.
pub mod Codes
-- CheckpointParts: the checkpoint part of an input, where a checkpoint belongs, and the rest that
-- follows it.
pub mod CheckpointParts
-- Small: what the run of a schedule can have counted.
pub mod Small
-- Causes: when a call answers a fault of its source or its sink.
pub mod Causes
-- Saved: a run whose checkpoint was saved, and what the lines that follow come to below it.
pub mod Saved
-- Answers: what a call has written and answered.
pub mod Answers
-- Laws: what is proved of these definitions.
pub mod Laws
