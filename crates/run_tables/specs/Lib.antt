pub mod Chosen
pub mod Rows
pub mod Blocks
pub mod Tanks
pub mod Held
