pub mod Whole
pub mod Tally
pub mod Stops
