pub mod Rows
pub mod SizeFacts
