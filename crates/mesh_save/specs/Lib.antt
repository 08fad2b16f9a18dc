-- Read in this order.
-- Encoders: what an encoder has taken.
pub mod Encoders
-- EncoderLaws: what was taken in two parts was taken as a whole.
pub mod EncoderLaws
-- Bytes: the bytes of each part of a body.
pub mod Bytes
-- Requests: the requests that a node has seen, by their originators.
pub mod Requests
-- Narrow: numbers that are no greater than their fields.
pub mod Narrow
-- Links: the links of a mesh, by their first nodes.
pub mod Links
-- Saved: what a call has written of a state's checkpoint.
pub mod Saved
