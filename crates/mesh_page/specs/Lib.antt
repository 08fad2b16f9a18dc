-- Read in this order: the variant of a number, and what a call has written and answered.
pub mod Variants
pub mod Told
