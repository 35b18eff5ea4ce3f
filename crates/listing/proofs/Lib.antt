pub mod Pasting
pub mod Writing
pub mod Digits
pub mod HexDigits
pub mod Listing
pub mod Example
