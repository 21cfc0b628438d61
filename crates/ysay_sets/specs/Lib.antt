pub mod Taken
pub mod Imports
pub mod Samples
