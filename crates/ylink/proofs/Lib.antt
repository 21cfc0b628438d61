pub mod CoreLemmas
pub mod EmptyLemmas
pub mod LinkingLemmas
pub mod ModuleLemmas
pub mod ModuleNameLemmas
pub mod PatternLemmas
pub mod PhaseLemmas
mod RepeatedLemmas
pub mod VerdictLemmas
pub mod WrongLemmas
