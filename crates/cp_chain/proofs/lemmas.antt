pub mod Apart
pub mod Entries
