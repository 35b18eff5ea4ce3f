-- Laws that belong to no one function.
pub mod Bounds
pub mod Literals
pub mod Range
pub mod Rounding
pub mod Signs
