pub mod Readings
pub mod Accepted
pub mod Accepting
