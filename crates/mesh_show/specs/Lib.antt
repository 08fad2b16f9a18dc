-- Destinations: the text of what a node has for one destination, if it has anything.
pub mod Destinations
