-- Read in this order.
-- Rates: how a channel treats copies.
pub mod Rates
-- Fates: what a channel decides of a copy, by random words.
pub mod Fates
-- Plans: when the copies that aren't lost are due.
pub mod Plans
-- Channels: the channel, and what it decides after an event.
pub mod Channels
-- Laws: what is proved of a channel.
pub mod Laws
-- Left, Steps: what is left to do, and the steps by which a channel decides.
pub mod Left
pub mod Steps
