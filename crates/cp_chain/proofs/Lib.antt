pub mod lemmas
mod NodeFacts
mod Paths
mod Holding
mod Removal
