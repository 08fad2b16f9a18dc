-- Read in this order. aodv_model defines what a node does, and the specs of aodv_node what its
-- calls answer.
-- Stations: what is seen of a router with its mesh.
pub mod Stations
-- Meshes: the mesh of some addresses, or why there is none.
pub mod Meshes
-- Joined: what joins an inbox, or why nothing does.
pub mod Joined
-- Outcomes: what a node has done, in addresses.
pub mod Outcomes
-- Steps: what a turn, a send and a request answer, and what is seen of the router afterwards.
pub mod Steps
-- Rows: an entry of the routing table, in addresses.
pub mod Rows
