pub mod Ahead
pub mod Collected
pub mod Cut
pub mod Items
pub mod Numbers
pub mod Results
pub mod Stops
pub mod Text
