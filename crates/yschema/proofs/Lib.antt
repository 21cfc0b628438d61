pub mod ToldLemmas
pub mod MakingLemmas
pub mod AddedLemmas
pub mod PlaceLemmas
pub mod LevelLemmas
