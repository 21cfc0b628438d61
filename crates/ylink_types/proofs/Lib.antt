pub mod KnownLemmas
pub mod NumberLemmas
pub mod IdentityLemmas
pub mod OrderLemmas
pub mod RowLemmas
pub mod TypeLemmas
pub mod WithinLemmas
