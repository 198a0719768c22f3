pub mod Webs
pub mod Laying
pub mod Accepted
pub mod Settled
