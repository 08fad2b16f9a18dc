pub mod ChangeLaws
pub mod Placings
pub mod Telling
pub mod Runs
