pub mod FormatLemmas
pub mod CountLemmas
pub mod SaysLemmas
pub mod ShownLemmas
pub mod ShortLemmas
pub mod GoodLemmas
pub mod FormLemmas
