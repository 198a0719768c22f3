pub mod Place
pub mod Stand
pub mod Runs
pub mod Settled
