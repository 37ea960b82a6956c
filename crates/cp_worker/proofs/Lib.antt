pub mod Sizes
pub mod Centres
pub mod Commits
pub mod Permuted
pub mod Shifting
pub mod Crossing
pub mod Rising
