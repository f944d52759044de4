pub mod Arithmetic
pub mod BitLists
pub mod Fronts
pub mod Values
pub mod Widths
mod Appended
pub mod ReadingLemmas
pub mod Steps
pub mod ValueSteps
pub mod GrammarLemmas
pub mod Holds
pub mod PlaceLemmas
