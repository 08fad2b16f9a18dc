-- Sums: the definitions' sums for the code's.
pub mod Sums
-- Messages: what an event did, if its packets are messages that name only nodes of the mesh.
pub mod Messages
-- Nodes: what an answer names is in the mesh.
pub mod Nodes
-- Packets: what an event and a node's step did, by the bytes of the packets.
pub mod Packets
