-- Sums: how large the counts may be. RunStates: what every state of a run has, and what an event
-- answers in one.
pub mod Sums
pub mod RunStates
-- Codes: what a run answers, and the status with which a process ends. Outputs: what a run has
-- written and answered. Causes: when it answers a fault. The contract of `run` cites Outputs and
-- Causes, besides the definitions of mesh_text. Variants: the variants of the protocol, by name.
-- The others say what the parts of a run do. Stops: why an event isn't done. Runs: what is written
-- and answered for one line, for one event, and for events that were chosen. Ends: the end of a run
-- at a line that wasn't done. Room: how far lines can lead. Running: the run of a schedule as a
-- script.
pub mod Codes
pub mod Outputs
pub mod Causes
pub mod Variants
pub mod Stops
pub mod Runs
pub mod Ends
pub mod Room
pub mod Running
