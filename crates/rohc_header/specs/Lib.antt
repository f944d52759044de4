pub mod Original
pub mod Check
pub mod Laws
pub mod Polynomial
pub mod Prepared
