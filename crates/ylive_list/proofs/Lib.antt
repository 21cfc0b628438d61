pub mod ChildLemmas
pub mod DownLemmas
pub mod FoundLemmas
pub mod ListingLemmas
pub mod RowLemmas
pub mod TellingLemmas
pub mod WalkLemmas
pub mod WalkedLemmas
