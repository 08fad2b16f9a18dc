-- Read in this order.
-- Words: the words of a command line, and what they ask for.
pub mod Words
-- Choices: what the channel does next.
pub mod Choices
-- Chosen: the events that a line of the input comes to.
pub mod Chosen
-- Lines: the lines of the input.
pub mod Lines
-- Text: the text of a run over a channel, and its verdict.
pub mod Text
-- Runs: the events of such a run, and the worlds that they lead through.
pub mod Runs
-- Schedule: the schedule that such a run chooses.
pub mod Schedule
-- Laws: what is proved of these definitions.
pub mod Laws
-- Outputs: what such a run has written and answered. The contract of the top call cites this.
pub mod Outputs
-- The others say what the parts of a run do.
-- Room: how far lines can lead, and the room that they need.
pub mod Room
-- RunStates: a run over a channel between two lines, and what is written for one line.
pub mod RunStates
-- Running: a run over a channel as a script.
pub mod Running
