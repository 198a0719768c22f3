pub mod Fronts
pub mod Together
pub mod Pairings
pub mod Number8
