-- What is seen of an inbox, and which items may wait in it.
pub mod Queues
