-- Lemmas that the proofs of several crates want, and that std doesn't have.
pub mod Bools
pub mod Lists
pub mod Sets
pub mod Maps
pub mod Words
