pub mod Visits
pub mod Posting
pub mod Listing
pub mod Candidates
pub mod Shifts
