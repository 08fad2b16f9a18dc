-- Read in this order.
-- Tables: tables as functions, their edges and cycles, and when they are sound.
pub mod Tables
-- Printed: the tables that the lines of a text show.
pub mod Printed
-- Laws: what is proved of tables.
pub mod Laws
-- Search: how the first failing edge is looked for. No public contract cites it.
pub mod Search
-- Kept: how printed tables are kept. Public contracts cite only the most lines that are read.
pub mod Kept
