pub mod ControlLemmas
pub mod LineLemmas
pub mod NearLemmas
pub mod EditLemmas
