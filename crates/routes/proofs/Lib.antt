pub mod Answers
pub mod Hops
pub mod Settled
pub mod LeastCosts
pub mod Found
pub mod Called
