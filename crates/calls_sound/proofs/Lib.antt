-- Soundness: the start of tables that fit is in order, and every call keeps a state so.
pub mod Numbers
pub mod Sums
pub mod Kept
pub mod Start
pub mod Theorem
pub mod Step
