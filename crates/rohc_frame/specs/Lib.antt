pub mod Header
pub mod Items
pub mod Reading
pub mod Parts
pub mod Refused
pub mod Read
pub mod Laws
