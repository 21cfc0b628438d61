pub mod PartLemmas
pub mod DiagramLemmas
pub mod ExplainedLemmas
