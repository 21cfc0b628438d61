pub mod AmongLemmas
pub mod GrowthLemmas
pub mod ReachingLaws
mod StepLaws
mod EnterLemmas
mod LeaveLemmas
mod RankLemmas
mod WorkLemmas
mod EdgeLemmas
mod DerivationLaws
mod MarkLemmas
