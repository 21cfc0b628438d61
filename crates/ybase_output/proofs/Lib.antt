pub mod WalkLemmas
pub mod SinkLemmas
pub mod WritingLemmas
