pub mod Start
pub mod Patterns
pub mod Controls
pub mod Tanks
pub mod Inflow
pub mod Starting
