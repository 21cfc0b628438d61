pub mod TupleLemmas
pub mod JoiningLemmas
