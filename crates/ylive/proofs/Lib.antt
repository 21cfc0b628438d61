pub mod FlagLemmas
pub mod HolderLemmas
pub mod JoinedLemmas
pub mod JudgedLemmas
pub mod LiveLemmas
pub mod ReachLemmas
pub mod RunLemmas
