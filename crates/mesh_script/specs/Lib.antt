-- Read in this order.
-- Arguments: the definitions' arguments for the code's.
pub mod Arguments
-- Shapes: what a line says by itself in the definitions, for what the code reads.
pub mod Shapes
-- Seen: the definitions' line for the code's, and what is known of one that is allowed or printed.
pub mod Seen
-- NodeCommands: the table of a router's script.
pub mod NodeCommands
-- Peers: a router's mesh, the node itself in that mesh, and the port of each peer.
pub mod Peers
-- NodeLines: what a line of a router's script comes to, and how it is written back.
pub mod NodeLines
-- NodeSeen: the definitions' line of a router's script for the code's.
pub mod NodeSeen
