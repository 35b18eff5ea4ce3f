-- Laws that belong to no one function.
pub mod Values
pub mod Loaded
pub mod Inflows
pub mod ByTable
pub mod InForce
