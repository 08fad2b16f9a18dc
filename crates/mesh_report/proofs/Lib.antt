-- Pieces: a text that is put piece after piece.
pub mod Pieces
-- Each: a text for each item of a list.
pub mod Each
-- Members: the members of a set, and their names.
pub mod Members
-- Decimals: numbers of more than four digits.
pub mod Decimals
-- HexBytes: the table of the two digits of each byte.
pub mod HexBytes
-- Copies: the lines of copies.
pub mod Copies
-- Messages: what the texts by bytes are in the definitions' words.
pub mod Messages
