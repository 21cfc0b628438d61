pub mod SearchLiterals
pub mod SearchLemmas
