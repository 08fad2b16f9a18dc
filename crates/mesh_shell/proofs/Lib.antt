-- Pieces: the lines of the bytes that an input has left. Joined: the lines put together again.
-- Completes: the first line of some bytes. Progress: how far a run has come in its input. Runs: a
-- run of lines, step by step. Steps: what a script's calls tell of the lines to come. Faults:
-- answers and errors. Told: what was told of the run of a script. Buffers: what was told to a buffer.
pub mod Pieces
pub mod Joined
pub mod Completes
pub mod Progress
pub mod Runs
pub mod Steps
pub mod Faults
pub mod Told
pub mod Buffers
