mod Planned
pub mod Deciding
pub mod Lawful
