pub mod Paths
pub mod Moments
pub mod Saving
pub mod Reading
pub mod Laws
