pub mod Interval
pub mod Fields
