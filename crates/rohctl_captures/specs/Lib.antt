pub mod Timed
pub mod Times
pub mod Which
pub mod Part
pub mod Payloads
