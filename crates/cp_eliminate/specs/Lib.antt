pub mod Eliminating
pub mod Sides
pub mod Laws
