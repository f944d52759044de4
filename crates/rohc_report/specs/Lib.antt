pub mod Escaped
pub mod Became
pub mod Axis
pub mod Taken
pub mod Rows
