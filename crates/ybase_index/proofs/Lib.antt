pub mod KeyLemmas
pub mod NameLemmas
pub mod OrderLemmas
pub mod SortedLemmas
