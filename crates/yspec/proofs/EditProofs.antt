pub mod AnswerLemmas
pub mod SortedEditLemmas
pub mod LimitLemmas
pub mod BoundLemmas
pub mod FittingEditLemmas
pub mod MoveLemmas
