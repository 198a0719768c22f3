pub mod Packing
pub mod Taken
pub mod Settled
