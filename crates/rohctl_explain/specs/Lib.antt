pub mod Falls
pub mod Held
