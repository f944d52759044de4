pub mod Piecewise
pub mod Noted
pub mod Between
pub mod LooksOn
pub mod UnderWay
pub mod Laws
