-- Pieces: the lines of an input. Fold: what a script makes of them. Outputs: what is known of a
-- run. Causes: when a fault is answered. Scripts: the sizes of lines, and what the calls of a
-- script answer. Runs: what is known of a run of lines, whatever is done with them. Scripted: a
-- script as a runner of lines. ScriptedLaws: its laws. Laws: what holds of the lines.
pub mod Pieces
pub mod Fold
pub mod Outputs
pub mod Causes
pub mod Scripts
pub mod Runs
pub mod Scripted
pub mod ScriptedLaws
pub mod Laws
