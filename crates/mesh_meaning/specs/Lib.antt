-- Read in this order.
-- Events: an event of the program as the definitions have it.
pub mod Events
-- Packets: the packet that is written of a message, items and copies that hold one, and nodes and
-- worlds of them.
pub mod Packets
-- Answers: what a step's answer, with the packet that goes with it, says of what happened.
pub mod Answers
