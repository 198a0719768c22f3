pub mod NamesListed
pub mod Seeking
pub mod Namings
pub mod Settled
