pub mod Hoods
pub mod Ready
pub mod Seats
pub mod Tries
pub mod Rows
pub mod Commits
pub mod Examples
