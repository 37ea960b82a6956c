pub mod Going
pub mod Holding
pub mod Centred
pub mod Following
pub mod Turns
pub mod Outcomes
pub mod Rows
pub mod Neighbours
pub mod Tries
pub mod Ranges
mod Readying
pub mod Examples
