pub mod PlaceLemmas
pub mod PassingLemmas
pub mod AnswerLemmas
pub mod LinesLemmas
pub mod TokenLemmas
