pub mod Canonical
pub mod Readings
pub mod CommandLines
