pub mod Accepted
pub mod Chosen
pub mod Commands
pub mod Taken
