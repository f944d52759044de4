pub mod Nearest
pub mod Reason
