pub mod Twice
pub mod Needed
pub mod Config
pub mod Samples
