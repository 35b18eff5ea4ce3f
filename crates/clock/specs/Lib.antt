pub mod Steps
pub mod Triggers
pub mod Machine
pub mod Demand3
pub mod Lawful
