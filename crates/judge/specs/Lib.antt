pub mod Judgement
pub mod Fit
