pub mod ItemLemmas
pub mod SplitLemmas
pub mod Identifier
pub mod HeaderLemmas
pub mod Greatest
pub mod RefusalLemmas
pub mod EndLemmas
pub mod LawLemmas
