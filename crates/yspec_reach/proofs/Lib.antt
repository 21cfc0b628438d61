pub mod ReachLiterals
pub mod PartLemmas
pub mod SumLemmas
pub mod PairLemmas
