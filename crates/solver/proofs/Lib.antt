-- Laws that belong to no one function.
pub mod Summed
pub mod Closed
pub mod ByTable
pub mod InForce
