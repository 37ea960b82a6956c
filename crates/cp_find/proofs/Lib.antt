pub mod Scans
pub mod Firsts
pub mod Turned
pub mod Searches
pub mod Least
pub mod Lookups
pub mod Past
