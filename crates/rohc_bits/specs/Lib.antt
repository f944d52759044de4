pub mod Bits
pub mod Fronts
pub mod Spelling
pub mod LowBits
pub mod Reading
pub mod Grammar
pub mod InTurn
pub mod Places
