pub mod Places
pub mod Turned
pub mod Passes
pub mod Stored
pub mod Examples
