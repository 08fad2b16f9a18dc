-- Read in this order. aodv_model defines what a node does (its specs/Handlers and specs/Fullness).
-- Shown: the model's state for a core of the code, and what handlers require of a core and
-- preserve.
pub mod Shown
-- Made: what it means that a handler did what the model does, or refused.
pub mod Made
-- Parts: what the variants of the model's handlers share.
pub mod Parts
