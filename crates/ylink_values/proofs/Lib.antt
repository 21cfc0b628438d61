pub mod MatchLemmas
pub mod NamingLemmas
