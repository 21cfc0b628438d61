pub mod CallerLemmas
pub mod StoreLemmas
