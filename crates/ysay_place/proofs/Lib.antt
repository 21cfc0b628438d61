pub mod PlaceLemmas
pub mod PredicateLemmas
pub mod OrderedLemmas
