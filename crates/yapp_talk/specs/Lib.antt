pub mod Saving
pub mod Watching
pub mod Talked
