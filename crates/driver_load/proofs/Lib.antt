pub mod Inner
pub mod Taken
