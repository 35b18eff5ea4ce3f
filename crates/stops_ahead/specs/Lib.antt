pub mod Foreseen
pub mod Ahead
