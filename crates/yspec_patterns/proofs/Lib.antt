pub mod FitsLemmas
pub mod PatternLiterals
