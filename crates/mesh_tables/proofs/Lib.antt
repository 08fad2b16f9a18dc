pub mod Cycles
pub mod Kept
pub mod Leasts
pub mod Lines
