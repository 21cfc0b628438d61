pub mod CompilingLemmas
