-- What is decided of nodes and a radio. Read in this order.
-- Packets: what holds of each packet that waits or flies.
pub mod Packets
-- Claims: what is claimed of packets.
pub mod Claims
-- Edges: the entries of nodes and the next hops that back them.
pub mod Edges
