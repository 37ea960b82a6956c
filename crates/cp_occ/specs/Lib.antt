pub mod Cells
pub mod Lending
pub mod Changes
pub mod Silence
pub mod Bits
pub mod Against
pub mod Sides
