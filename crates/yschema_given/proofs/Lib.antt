pub mod KeepingLemmas
pub mod StatingLemmas
pub mod HoldingLemmas
pub mod SourceLemmas
