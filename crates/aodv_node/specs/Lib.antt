-- Read in this order. aodv_model defines what a node does (its specs/Handlers and specs/Fullness),
-- and aodv_meaning what a packet means in a mesh.
-- Seen: what is seen of a node, and what holds of every node.
pub mod Seen
-- Turned: what a turn answers, and what is seen of the node afterwards.
pub mod Turned
-- Discovered: what the send of a stored datum and a request of the node's own answer, and what is
-- seen of the node afterwards.
pub mod Discovered
-- Meanings: what a message of a packet means. Only the crate's own functions cite it.
pub mod Meanings
-- Heard: what a turn on the bytes of a packet answers. Only the crate's own functions cite it.
pub mod Heard
-- Restored: what is answered when a node is made from parts that were kept.
pub mod Restored
