-- Read in this order.
-- Routes: the route that is asked for, an honest walk for it, and its line.
pub mod Routes
-- Answers: what a call has written and answered.
pub mod Answers
