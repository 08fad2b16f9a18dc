-- Read in this order.
-- Places: places on a grid, which of them are within reach of each other, and where nodes are.
pub mod Places
-- Lines: the lines that put a node at a place.
pub mod Lines
-- Links: which nodes are within reach of each other, and the links that are made and cut when a
-- node comes to a place.
pub mod Links
-- Text: the text of a run with places, and its verdict.
pub mod Text
-- Runs: the events of a run with places, and the states and worlds that they lead through.
pub mod Runs
-- Seen: the definitions' events for the code's event.
pub mod Seen
-- Laws: what is proved of these definitions.
pub mod Laws
