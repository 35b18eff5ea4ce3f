pub mod Stops
pub mod Walk
pub mod Exact
pub mod Tankless
