pub mod Closing
pub mod ByTable
pub mod Pressure
