pub mod Emptying
pub mod Moving
