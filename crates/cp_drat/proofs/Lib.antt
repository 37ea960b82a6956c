pub mod Accepted
pub mod Counts
pub mod Cuts
pub mod Ends
pub mod Groups
pub mod Refuted
pub mod Rows
pub mod RupAdditions
