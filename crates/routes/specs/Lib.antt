pub mod Fillings
pub mod Hops
pub mod LeastCosts
