-- What a trail answers, and the lists that it keeps. Read in this order, after mesh_model's `Kept`
-- and `Held`, which define those lists.
-- Laws: the statements that this crate proves of them.
pub mod Laws
-- Walks: what a trail answers. No public contract cites the files after it.
pub mod Walks
-- Said: what a message says of routes.
pub mod Said
-- Heard: what waits at the front of a queue, and what its node learns of it.
pub mod Heard
-- Lists: the lists of a node, and how they change.
pub mod Lists
-- Steps: what a step of a node does to its lists, and what it needs in hand before.
pub mod Steps
-- Casts: the lists of the copies in flight, one for each cast.
pub mod Casts
-- Trails: that all these lists are walks.
pub mod Trails
-- Preparations: what is prepared for an event before the world does it, and what the world has
-- answered.
pub mod Preparations
