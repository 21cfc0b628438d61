pub mod RepeatedLemmas
pub mod UniqueLemmas
