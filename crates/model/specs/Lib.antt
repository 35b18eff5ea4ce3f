pub mod Loops
pub mod Blank
pub mod Patterns
pub mod Nodes
pub mod Links
