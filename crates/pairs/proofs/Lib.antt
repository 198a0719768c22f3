pub mod Merge
pub mod Fronts
pub mod Answers
pub mod Settled
pub mod Number8
