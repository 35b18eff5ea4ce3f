-- Laws on what an accepted image yields.
pub mod Placing
pub mod Accepted
