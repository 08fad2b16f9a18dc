-- Read in this order. The requests that a node has seen are a set of pairs, as defined in
-- aodv_model (specs/Cores).
-- Requests: what is seen of them, what is next to a request, and the least id from a number on.
pub mod Requests
-- Intervals: the ids of one originator, kept as intervals.
pub mod Intervals
-- Spots: where the intervals are in chunks. Only the crate's own functions cite it.
pub mod Spots
-- Storage: how the intervals of a list are kept. Only the crate's own functions cite it.
pub mod Storage
-- Rows: the requests, from the ids of each originator.
pub mod Rows
-- Insertions: how one more id changes the intervals. Only the crate's own functions cite it.
pub mod Insertions
-- Tops: the last interval of each originator's ids, kept separately from its row.
pub mod Tops
