pub mod Ahead
pub mod Reader
pub mod Grammar
pub mod Laws
pub mod Reads
pub mod Resume
pub mod Text
