pub mod CutLemmas
pub mod ListLemmas
pub mod NumberLemmas
pub mod SpanLemmas
