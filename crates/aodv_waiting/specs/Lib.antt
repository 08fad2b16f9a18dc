-- Read in this order. aodv_model defines what a store is, and its changes (its specs/Cores).
-- Seen: what is seen of a store: its data, and how many more it has room for.
pub mod Seen
-- Rows: the store, from the data for each destination and two sets of destinations.
pub mod Rows
-- Slots: the slots for the data of one destination.
pub mod Slots
