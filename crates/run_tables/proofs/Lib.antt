-- Laws that belong to no one function.
pub mod Along
pub mod Listed
pub mod Pushing
pub mod Blocks
pub mod TankRows
pub mod Inside
