pub mod Filled
pub mod Apart
