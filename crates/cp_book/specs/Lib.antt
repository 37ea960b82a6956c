pub mod Changes
pub mod Empties
pub mod Views
pub mod Kept
pub mod Parts
pub mod Answers
