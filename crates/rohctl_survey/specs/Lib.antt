pub mod Address
pub mod Evidence
