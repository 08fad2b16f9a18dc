-- Logging: what was written and sent, one after another.
pub mod Logging
-- Memory: a call is short of memory where one that it makes is.
pub mod Memory
-- Peers: ports, and sets of peers.
pub mod Peers
-- Finds: what calls that receive have found.
pub mod Finds
-- Polling: what is done with datagrams that were received.
pub mod Polling
-- Turning: a turn of the node is the router's.
pub mod Turning
-- Acting: what a node does of its own accord, and what is told of a step.
pub mod Acting
-- Running: a line of the script, by what the router does for it.
pub mod Running
-- Script: what is told of a script, one line after another.
pub mod Script
