-- What is seen of a radio. Read in this order.
-- Copies: the copies of packets in flight.
pub mod Copies
-- Radios: the links of a mesh and the copies in flight, and what links, casts and takes do to them.
pub mod Radios
-- Kept: how the code keeps links, copies and memory. No public contract cites it.
pub mod Kept
-- Casts: how the code keeps the copies, as casts by their first copies.
pub mod Casts
-- Gathered: how a copy joins the last cast.
pub mod Gathered
-- Hashes: how the number of a cast is hashed.
pub mod Hashes
