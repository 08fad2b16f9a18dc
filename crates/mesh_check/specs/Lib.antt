-- Read in this order.
-- Says: what a printed text says.
pub mod Says
-- Verdicts: the answer that is right for it, and the line that is written.
pub mod Verdicts
-- Codes: the status with which the process ends.
pub mod Codes
-- Laws: each text has one right answer.
pub mod Laws
