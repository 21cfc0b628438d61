pub mod BindingLemmas
pub mod CutLemmas
pub mod AnswerLemmas
pub mod PathLemmas
pub mod MovableLemmas
