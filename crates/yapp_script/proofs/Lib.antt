pub mod ScriptLemmas
pub mod HintLemmas
