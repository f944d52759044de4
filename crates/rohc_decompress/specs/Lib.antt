pub mod Cut
pub mod Written
pub mod Run
