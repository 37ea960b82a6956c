pub mod Scans
pub mod Firsts
pub mod Least
