pub mod Answers
pub mod Commands
pub mod Letters
pub mod Names
pub mod Roles
pub mod Words
