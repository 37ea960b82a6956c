pub mod lemmas
pub mod Numbered
pub mod Having
pub mod Entered
pub mod Changed
pub mod Posted
mod Searches
pub mod Sided
mod SharedBits
mod Pairs
