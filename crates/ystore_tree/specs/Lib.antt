pub mod Changes
pub mod Copies
pub mod Growing
pub mod Hanging
pub mod Parts
pub mod Swaps
pub mod Ways
pub mod Worked
