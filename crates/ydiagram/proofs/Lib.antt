pub mod LabelLemmas
pub mod RowLemmas
pub mod AugmentLemmas
