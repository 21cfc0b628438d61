-- The schema of a set of modules, and the rules that they break.
pub mod References
pub mod Schema
pub mod Breaks
pub mod Diagram
pub mod Configuration
pub mod ReferenceExamples
