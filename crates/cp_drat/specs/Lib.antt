pub mod Checks
pub mod Log
pub mod Text
