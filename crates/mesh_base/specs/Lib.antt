-- Read in this order: numbers, the parts of a text, addresses, meshes, owned bytes, sets of nodes,
-- copies in flight that are only looked at.
-- Bounds has the bounds of what a run counts.
-- Words has the proof that a set gives its words back, Octets an address number by number,
-- InlineBytes short bytes, and Stems an address's first numbers as they are kept; no public
-- contract names any of these.
pub mod Bounds
pub mod Numbers
pub mod Parts
pub mod Addresses
pub mod Meshes
pub mod Bytes
pub mod Members
pub mod Views
pub mod Words
pub mod Octets
pub mod InlineBytes
pub mod Stems
