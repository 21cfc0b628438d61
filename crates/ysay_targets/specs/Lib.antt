pub mod Steps
pub mod Targets
pub mod Leafrefs
