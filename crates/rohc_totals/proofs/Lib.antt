pub mod PushLemmas
pub mod StepLemmas
pub mod FieldLemmas
pub mod LineLemmas
pub mod ReadingLemmas
pub mod SumLemmas
pub mod RowLemmas
