pub mod Inner
pub mod Cases
pub mod Shape
pub mod Arrays
pub mod Loads
pub mod Made
