-- Laws that belong to no one function.
pub mod Guard
pub mod Table
