-- Words: the port that is asked for.
pub mod Words
-- Openings: what the program has done at that port.
pub mod Openings
