pub mod LooseValues
pub mod HandleValues
pub mod RelayLemmas
pub mod SetupLemmas
pub mod ManyLemmas
pub mod PacketLemmas
pub mod PayloadLemmas
mod SavedLemmas
pub mod AnyLemmas
