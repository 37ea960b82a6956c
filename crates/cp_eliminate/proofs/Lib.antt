mod Fitting
mod Pairs
mod Searching
pub mod Exact
