pub mod KeywordLemmas
pub mod LengthLemmas
pub mod WordLemmas
