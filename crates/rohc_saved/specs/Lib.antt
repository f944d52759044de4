pub mod Form
pub mod Output
pub mod Reading
pub mod Read
pub mod Fallen
pub mod Restoring
pub mod LinkRestoring
pub mod Laws
