pub mod Tanks
pub mod Ranges
