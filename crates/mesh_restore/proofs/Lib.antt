-- Listings: how what is listed grows by what comes last.
pub mod Listings
-- Precursors: the precursors that were read are nodes of the mesh.
pub mod Precursors
-- PairLists: the pairs of a set, listed.
pub mod PairLists
-- StoreLists: how a store grows.
pub mod StoreLists
-- LinkLists: how the links grow.
pub mod LinkLists
-- CopyLists: how the flight grows.
pub mod CopyLists
-- LinksAndCopies: the links and the copies, one after another.
pub mod LinksAndCopies
-- MeshLists: a mesh with one more node.
pub mod MeshLists
-- NodeParts: the parts of a node, one after another.
pub mod NodeParts
-- Loop: reading values one after another, as a loop does.
pub mod Loop
