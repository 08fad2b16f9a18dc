-- Unopened: what is told where the link could not be opened.
pub mod Unopened
