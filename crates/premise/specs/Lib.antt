pub mod Premise
