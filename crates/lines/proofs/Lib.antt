pub mod Pages
pub mod Decimals
pub mod Commas
pub mod Lines
pub mod Others
pub mod Settled
