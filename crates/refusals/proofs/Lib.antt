-- What is proved of refusals and answers.
-- Assumes nothing.
pub mod Exits
pub mod Told
pub mod Settled
