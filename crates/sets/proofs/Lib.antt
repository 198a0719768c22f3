pub mod Bits
pub mod ByMembers
pub mod Walk
pub mod Settled
