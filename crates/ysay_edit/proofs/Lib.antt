pub mod ChoiceLemmas
pub mod PartLemmas
pub mod RowLemmas
pub mod SpellingLemmas
pub mod SpellingLaws
