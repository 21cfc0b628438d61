pub mod HalfLemmas
pub mod ListLemmas
pub mod MoveLemmas
pub mod OrderLemmas
pub mod TierLemmas
