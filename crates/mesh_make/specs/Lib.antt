-- Read in this order.
-- Words: the random words of a seed.
-- Drawn: a line of the steps, by the words that are drawn for it.
-- Made: the whole schedule.
-- Laws: what is proved of it.
-- Stages, Making: how far a schedule is made, for the contracts of `Maker` and `MadeSource`.
pub mod Words
pub mod Drawn
pub mod Made
pub mod Laws
pub mod Stages
pub mod Making
