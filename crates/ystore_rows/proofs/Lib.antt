pub mod CallerLemmas
pub mod NearLemmas
pub mod RowLemmas
