mod ReadingLemmas
mod LookingLemmas
mod SearchingLemmas
