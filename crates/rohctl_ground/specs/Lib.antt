pub mod Ending
pub mod Magic
pub mod Streams
