pub mod Start
pub mod Controls
pub mod Closing
pub mod Pressure
