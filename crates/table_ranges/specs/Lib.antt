pub mod Ranges
pub mod Records
