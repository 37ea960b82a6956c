pub mod Lists
pub mod Crossing
pub mod Joins
pub mod Drawn
pub mod Played
