pub mod Checked
pub mod LargeIdentifier
pub mod Parts
pub mod SmallIdentifier
pub mod Spelled
pub mod Uniqueness
pub mod Written
