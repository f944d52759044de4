pub mod SeenLemmas
pub mod TextLemmas
pub mod HeldLemmas
pub mod UnderLemmas
pub mod ReadLemmas
