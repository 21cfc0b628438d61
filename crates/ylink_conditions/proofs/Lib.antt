pub mod ReadingLemmas
pub mod WordLemmas
