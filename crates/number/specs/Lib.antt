pub mod Constants
pub mod Operators
pub mod Words
pub mod Order
pub mod Seconds
pub mod Compare
pub mod Bounds
