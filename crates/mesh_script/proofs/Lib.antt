pub mod Cuts
pub mod Allowed
pub mod FastLines
-- SameBytes: whether two lists of bytes are equal.
pub mod SameBytes
-- Said: what a line of a router's script says by itself.
pub mod Said
-- Indices: the indices of nodes and ports once one more node joins a mesh.
pub mod Indices
-- NodeAllowed: what a line of a router's script is read as is in its range, and is written back.
pub mod NodeAllowed
