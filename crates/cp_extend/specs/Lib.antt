pub mod Grammar
pub mod Held
pub mod Laws
pub mod ModelText
pub mod Reads
pub mod Steps
