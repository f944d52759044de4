pub mod Kind
pub mod Answer
pub mod Counted
pub mod Steps
pub mod Totals
pub mod Reading
pub mod Laws
pub mod Rows
