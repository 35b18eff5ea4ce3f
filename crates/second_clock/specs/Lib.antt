pub mod SecondClock
pub mod Walks
