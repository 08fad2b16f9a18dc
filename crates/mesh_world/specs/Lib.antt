-- How contracts view a world. Read in this order; mesh_model defines what happens in a world, and
-- mesh_meaning what the program's events, copies and answers mean.
-- Seen: what is seen of a world, and what every world keeps.
pub mod Seen
-- Steps: what a step answers, and what is then seen of the world.
pub mod Steps
-- CountsOfEvents: what is counted of an event.
pub mod CountsOfEvents
-- Accounts: the account of each datum at an event.
pub mod Accounts
-- AtOnce: a copy that is taken as soon as it is delivered.
pub mod AtOnce
-- Kept: the world of given nodes and a radio, and how the code keeps one.
pub mod Kept
-- Noted: how the kept sets follow the nodes. No public contract cites it.
pub mod Noted
-- Acts: what a node does of its own accord, and what comes of it. No public contract cites it.
pub mod Acts
-- Parts: the parts of a world, and an event as it is done to them. No public contract cites it.
pub mod Parts
-- Ends: where a route ends.
pub mod Ends
-- Counted: the data, as they are counted. No public contract cites it.
pub mod Counted
-- Lists: an owned list of nodes.
pub mod Lists
-- Restored: which parts are those of a world, and which is the first that isn't in order.
pub mod Restored
