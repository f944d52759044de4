pub mod InARow
pub mod Split
pub mod SevenOctets
pub mod SevenBits
pub mod Periods
pub mod Checks
pub mod StaticFields
pub mod HeaderSum
