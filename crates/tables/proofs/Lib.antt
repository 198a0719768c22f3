pub mod Turns
pub mod Places
pub mod Asked
pub mod OnTable
pub mod OnTables
pub mod Settled
pub mod Accepting
