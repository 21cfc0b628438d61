pub mod Identities
pub mod View
pub mod Limits
pub mod Patterns
pub mod Founds
pub mod Forms
