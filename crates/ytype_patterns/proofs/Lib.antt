mod WholeLemmas
mod RepeatLemmas
mod RangeLemmas
mod BuiltLemmas
pub mod SetLemmas
mod ClassLemmas
pub mod MeansLemmas
pub mod ReadingLemmas
pub mod PatternLemmas
