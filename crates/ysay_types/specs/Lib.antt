pub mod Quoted
pub mod BuiltIns
pub mod Chain
pub mod Restrictions
pub mod Defaults
