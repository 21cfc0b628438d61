pub mod ReferenceLemmas
pub mod DefaultLemmas
pub mod ConfigLemmas
mod TupleLemmas
mod MarkLemmas
pub mod JudgingLemmas
pub mod AdditionLemmas
pub mod UnfitKeyLemmas
pub mod GuardLemmas
pub mod WidthLemmas
pub mod CallerLemmas
pub mod MemberLemmas
pub mod PlaceLemmas
