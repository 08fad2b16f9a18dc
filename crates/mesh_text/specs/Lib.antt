-- Read in this order.
-- Schedule: the states of a run, the faults of a line at its place, and the state after an event.
pub mod Schedule
-- Lines: the text of a schedule's lines, as they are written back, and of the last line of a run.
pub mod Lines
-- Effects: the text of what an event did.
pub mod Effects
-- Tables: the text of a node's state, of a route's end, and of the copies in flight.
pub mod Tables
-- Auto: the outcome of events one after another, and the events that a run chooses.
pub mod Auto
-- Text: the lines of an input one after another, the whole text and the verdict.
pub mod Text
-- Accounts: what becomes of the data that were given, and the lines that name them.
pub mod Accounts
-- Runs: the events that an input's lines do, and the states and worlds after them.
pub mod Runs
-- EveryWorld: what holds in every world of an input's run.
pub mod EveryWorld
-- NamedData: the lines of a text that name a datum.
pub mod NamedData
-- Ranges: the lines whose text is read back.
pub mod Ranges
-- Laws: what is proved of these definitions.
pub mod Laws
