pub mod ScanningLemmas
pub mod SlipPlaceLemmas
pub mod SlipToldLemmas
pub mod SpellingCutLemmas
pub mod SpellingLemmas
pub mod SpellingRowLemmas
pub mod SpellingTokenLemmas
