mod PlaceLemmas
mod AbsentLemmas
mod OfferLemmas
mod TurnLemmas
mod RunLemmas
