-- Laws of the definitions, and demand 3.
pub mod Tests
pub mod Smallest
pub mod Lengths
pub mod Unbounded
pub mod Advanced
pub mod Bound
pub mod Demand3
pub mod Bare
pub mod Tight
