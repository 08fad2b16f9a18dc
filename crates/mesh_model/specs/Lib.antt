-- The mesh. Read in this order, after the definitions of one node.
-- Numbered: lists of things with ids.
pub mod Numbered
-- Worlds: the state of the whole mesh, its events, one step, and a run of them.
pub mod Worlds
-- Walks: the valid routes of a world as a graph, and its cycles.
pub mod Walks
-- InMesh: that everything a world names is in its mesh, and which events are of a mesh.
pub mod InMesh
-- Invariants: what holds of every world of every run, and why routes can't form a cycle.
pub mod Invariants
-- Accounts: where the data are, and how they come and go.
pub mod Accounts
-- Trails: the walks over links that once stood, from which each valid route came.
pub mod Trails
-- Kept: the lists in which these walks are kept, and what each event does to the lists.
pub mod Kept
-- Held: that these lists are walks for a world's entries, requests and replies.
pub mod Held
-- Routes: where the valid next hops of a world lead.
pub mod Routes
-- Choices: what may be done next, and the choice of the next event.
pub mod Choices
-- Laws: the statements that this crate proves of the above.
pub mod Laws
-- Codes: no part of the protocol. They let a type of the code be viewed as a world.
pub mod Codes
