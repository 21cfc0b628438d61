pub mod Starts
pub mod Lines
pub mod Found
pub mod Samples
pub mod Tokens
