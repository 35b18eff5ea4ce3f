pub mod Words
pub mod Faults
pub mod Entries
