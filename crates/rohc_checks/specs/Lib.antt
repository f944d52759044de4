pub mod Division
pub mod Sum
