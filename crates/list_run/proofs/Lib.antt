-- What a list run by code counts, as demand 3 counts it.
pub mod Counts
