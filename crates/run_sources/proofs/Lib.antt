-- Laws that belong to no one function.
pub mod Laying
pub mod Inside
