-- Read in this order.
-- Datagrams: what is known of the datagrams that arrived or were sent.
pub mod Datagrams
-- Sockets: what the adapter over a socket keeps.
pub mod Sockets
-- Memory: links in memory.
pub mod Memory
