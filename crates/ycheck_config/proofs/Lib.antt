pub mod ConfigurationLemmas
pub mod RowLemmas
