-- Read in this order. aodv_model defines what a table is, and how it changes (its specs/Tables).
-- Calls: what the calls of a table report besides those changes.
pub mod Calls
-- Seen: what the contracts of a type of table see of it.
pub mod Seen
-- Rows: the table of a map of rows, for PlainTable. No public contract cites it.
pub mod Rows
-- Indexed: the table of a row for each node, for RowTable. No public contract cites it.
pub mod Indexed
