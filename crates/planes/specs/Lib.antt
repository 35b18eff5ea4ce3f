pub mod Planes
pub mod Passes
pub mod Refusals
