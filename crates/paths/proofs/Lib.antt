-- What is proved of following.
-- Assumes nothing.
pub mod Following
pub mod OverTables
pub mod Answers
pub mod Settled
pub mod Loopless
