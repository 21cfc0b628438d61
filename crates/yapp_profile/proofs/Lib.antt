pub mod GivenLemmas
pub mod LanguageLemmas
