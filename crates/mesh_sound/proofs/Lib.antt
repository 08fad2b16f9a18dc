pub mod Indices
pub mod Rising
pub mod Tables
pub mod Readings
pub mod Backed
pub mod Items
