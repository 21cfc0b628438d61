pub mod Configuration
pub mod Layout
pub mod Lookup
pub mod References
pub mod View
