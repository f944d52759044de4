pub mod Entry
pub mod File
pub mod Limits
pub mod Read
