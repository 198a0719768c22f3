pub mod Packed
pub mod Taken
