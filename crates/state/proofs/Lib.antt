-- Laws that belong to no one function.
pub mod Inside
pub mod Controlled
pub mod Emptied
pub mod Moved
pub mod Tabled
pub mod Patterned
pub mod InForce
