pub mod BreakLemmas
pub mod CountedLemmas
pub mod FormLemmas
pub mod GrammarLemmas
pub mod JudgeLemmas
pub mod SourceLemmas
pub mod WholeLemmas
pub mod WordLemmas
