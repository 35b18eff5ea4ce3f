pub mod Triggers
pub mod Calls
pub mod Levels
