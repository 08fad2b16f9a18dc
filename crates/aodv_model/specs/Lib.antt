-- One AODV node. Read in this order.
-- Quality: the next sequence number, and which of two entries is the better.
pub mod Quality
-- Destinations: destinations with a sequence number each.
pub mod Destinations
-- Pairs: sets of pairs of numbers.
pub mod Pairs
-- Tables: what a routing table says of a destination, and how update, invalidation and precursors
-- change it.
pub mod Tables
-- Cores: messages, stores of waiting data, and the state of a node.
pub mod Cores
-- Handlers: what a node does in one turn, at the send of a stored datum, and at a route request.
pub mod Handlers
-- Fullness: when a step would raise a counter past its field's greatest value.
pub mod Fullness
-- Soundness: what holds of each node's state, and which messages a node may hear.
pub mod Soundness
-- Laws: the statements that this crate proves about the above.
pub mod Laws
-- Codes: no part of the protocol. They let a type of the code have a state of the model as its
-- view.
pub mod Codes
