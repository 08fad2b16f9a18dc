-- Read in this order.
-- Meaning: from a packet to a message of the model, and which address that it names is no node's.
pub mod Meaning
-- Sent: from a message of the model to its packet.
pub mod Sent
-- Effects: the program's effects and kinds for the model's, and the model's items for the
-- program's.
pub mod Effects
-- Laws: what is proved of Meaning and Sent.
pub mod Laws
