pub mod ConfigurationLemmas
pub mod PlacedLemmas
pub mod ChoiceLemmas
pub mod PathLemmas
pub mod AnythingLemmas
pub mod AscendingLemmas
pub mod FitLemmas
