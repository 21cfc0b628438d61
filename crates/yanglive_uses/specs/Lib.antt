pub mod Checking
pub mod Compiling
pub mod Editing
