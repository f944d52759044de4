pub mod EscapedLemmas
pub mod RowLemmas
