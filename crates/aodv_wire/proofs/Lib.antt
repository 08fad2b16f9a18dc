pub mod Lines
pub mod Profile
pub mod Pairs
pub mod Repeats
pub mod Writes
pub mod Distinct
