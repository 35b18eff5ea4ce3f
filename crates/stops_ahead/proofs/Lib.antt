-- The stops ahead are the definition's.
pub mod Following
pub mod Filling
pub mod Tables
