pub mod Bindings
pub mod Commands
pub mod Input
pub mod Lines
pub mod Options
pub mod Refused
pub mod Texts
