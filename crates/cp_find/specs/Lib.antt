pub mod Chosen
pub mod Finds
pub mod Laws
pub mod Lookups
pub mod Past
