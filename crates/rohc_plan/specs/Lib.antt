pub mod Outcomes
pub mod Split
