pub mod Tests
pub mod Stepping
pub mod Settled
