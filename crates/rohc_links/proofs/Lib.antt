pub mod EntryLemmas
pub mod FieldLemmas
pub mod RangeLemmas
pub mod UnfitLemmas
