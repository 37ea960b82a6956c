pub mod DrawnFacts
pub mod Rows
