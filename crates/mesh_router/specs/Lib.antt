-- Read in this order.
-- Logs: what a router writes and sends, in order.
pub mod Logs
-- Routers: a router, and the state of its run.
pub mod Routers
-- Casts: to which peers a packet goes, and what is written about a step.
pub mod Casts
-- Turns: a router's turns, its sends and its requests.
pub mod Turns
-- Finds: what the calls that receive datagrams find.
pub mod Finds
-- Polls: what a router does with the datagrams that it receives.
pub mod Polls
-- Lines: what a line of a router's script comes to.
pub mod Lines
-- Text: what a router writes and sends for its script, and the verdict.
pub mod Text
-- Outputs: what a call has put on a sink and sent over a link.
pub mod Outputs
-- Peers: the code's peers, and what the code says of a step.
pub mod Peers
-- Seen: what is seen of a router, and what holds of every one.
pub mod Seen
-- Short: when a router may be short of memory.
pub mod Short
-- Runs: what was reported of a turn, of a command, and of datagrams that were received.
pub mod Runs
-- Stages: the definitions' stage for the code's.
pub mod Stages
-- Codes: the status with which a process ends.
pub mod Codes
-- Output: what was written, sent and answered for a script.
pub mod Output
-- Joins: what was written, sent and found, one after another.
pub mod Joins
-- Routing: the lines of a script as they are run.
pub mod Routing
-- RoutingLaws: laws about the lines of a script as they are run.
pub mod RoutingLaws
