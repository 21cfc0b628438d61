pub mod ProgramLiterals
pub mod ScriptLemmas
pub mod RunLemmas
pub mod SchemaLemmas
pub mod DumpLemmas
pub mod FormatLemmas
