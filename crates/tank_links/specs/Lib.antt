pub mod Groups
pub mod Laid
pub mod Chains
