pub mod Line
pub mod Control
pub mod Near
pub mod Edits
pub mod Word
pub mod Sentence
pub mod Labels
pub mod Samples
