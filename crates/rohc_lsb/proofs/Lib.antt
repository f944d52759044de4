pub mod Meant
pub mod Once
pub mod Offsets
pub mod Reach
pub mod Residues
pub mod Strides
