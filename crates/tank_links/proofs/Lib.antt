-- Laws that belong to no one function.
pub mod Linked
pub mod Putting
pub mod Fitting
pub mod Laying
pub mod Groups
pub mod Judging
pub mod Table
