pub mod PathAnswers
pub mod Following
pub mod Loopless
