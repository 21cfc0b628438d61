pub mod FellowLemmas
pub mod FoundLemmas
pub mod OtherLemmas
pub mod SentenceLemmas
