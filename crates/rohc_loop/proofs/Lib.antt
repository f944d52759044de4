pub mod AskLemmas
pub mod PathLemmas
pub mod WriteLemmas
pub mod SaveLemmas
pub mod ReadLemmas
pub mod LawLemmas
