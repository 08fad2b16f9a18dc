pub mod Formats
pub mod Checkpoint
pub mod State
pub mod Behind
mod Bodies
pub mod Loop
mod Counts
-- Written: what is written of packets' meanings are the packets again.
pub mod Written
