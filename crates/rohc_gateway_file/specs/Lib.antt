pub mod Civil
pub mod Ending
pub mod Log
