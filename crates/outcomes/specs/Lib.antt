pub mod Outcomes
pub mod Impacts
