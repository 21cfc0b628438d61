pub mod ApplyLemmas
pub mod EditLemmas
pub mod LocatingLemmas
pub mod RowChangeLemmas
