pub mod Namings
pub mod Parts
