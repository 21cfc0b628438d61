-- Modules that are looked for in folders.
pub mod Search
pub mod Samples
