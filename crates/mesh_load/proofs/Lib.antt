-- Listed: a listing is of one node.
pub mod Listed
-- Alike: what holds of nodes holds of others with the same listings.
pub mod Alike
-- NodeLists: how the nodes that were read grow by one.
pub mod NodeLists
-- Amounts: the data of a world that was read are those that were counted in its checkpoint.
pub mod Amounts
-- WorldParts: the parts of a world, one after another.
pub mod WorldParts
-- Bodies: the body of a state that was read is the body that it was read from.
pub mod Bodies
-- Sound: no part of a world that was read and made is refused.
pub mod Sound
-- BodyParts: the parts of a body, one after another.
pub mod BodyParts
-- RunStates: a checkpoint has one run state.
pub mod RunStates
-- Making: the state that is made of the parts of a body has that body.
pub mod Making
-- Loaded: what is loaded of bytes is what a checkpoint is of.
pub mod Loaded
-- Sendable: each request that a node casts has an id within its field, and each route error names a destination.
pub mod Sendable
-- SendableRuns: so has each that waits or flies in a run.
pub mod SendableRuns
-- ClearPackets: a message whose numbers are within their fields is what its packet means.
pub mod ClearPackets
-- PlainRuns: after the lines of any input the state is plain.
pub mod PlainRuns
-- Unrefused: no refusal applies to the checkpoint of a state of a run.
pub mod Unrefused
