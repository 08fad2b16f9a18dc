-- Read in this order.
-- how a packet is laid out, in lines and fields
pub mod Layout
-- the first refusal of a list
pub mod Refused
-- RFC 3561 section 5.1: the table of a request, what it says, its refusals, what is written
pub mod RouteRequest
-- the same for a reply, section 5.2
pub mod RouteReply
-- the same for an error, section 5.3
pub mod RouteError
-- the same for a data packet
pub mod DataPacket
-- which bytes encode which message
pub mod Encodes
-- what holds of these definitions
pub mod Laws
