-- Laws that belong to no one function.
pub mod Each
pub mod Keeps
pub mod Loops
pub mod Nan
pub mod Pointwise
