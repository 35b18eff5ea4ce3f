-- Laws on what the calls leave alone.
pub mod Past
