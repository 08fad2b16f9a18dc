-- Holding and Lending: what a handle owns, and what it lends.
pub mod Holding
pub mod Lending
-- Codes: the numbers that calls answer and that an outcome has.
pub mod Codes
-- Laid: what a call leaves in the caller's own memory.
pub mod Laid
-- Calls: what a call answers, and what the handle then holds.
pub mod Calls
