mod Keys
mod Rows
mod Puts
mod Tables
mod LinkRows
mod Ids
mod Finished
pub mod FitsParts
pub mod Fits
pub mod FitsBody
mod Worlds
mod Whole
