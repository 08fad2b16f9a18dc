-- Read in this order.
-- Words: the reach that the words of a command line ask for.
pub mod Words
-- Outputs: what a run with places has written and answered. The contract of the top call cites
-- this, besides the definitions of mesh_grid.
pub mod Outputs
-- The others say what the parts of a run do.
-- RunStates: a run with places between two lines, and what is written and answered for one line.
pub mod RunStates
-- Running: a run with places as a script.
pub mod Running
