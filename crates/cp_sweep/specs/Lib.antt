pub mod Cursor
pub mod Marks
pub mod Sweeping
pub mod Swept
