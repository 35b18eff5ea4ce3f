pub mod Faults
pub mod Values
pub mod Taking
pub mod Loaded
