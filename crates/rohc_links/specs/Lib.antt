pub mod Entry
pub mod Fields
pub mod Keys
pub mod Limits
pub mod Links
pub mod Ranges
pub mod Unfit
