pub mod Place
pub mod Member
pub mod Number
pub mod NoJson
pub mod ReachedView
pub mod Sentence
pub mod Samples
