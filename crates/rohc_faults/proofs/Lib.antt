pub mod FileLemmas
pub mod LimitLemmas
pub mod ReadLemmas
