pub mod Kept
pub mod Inspecting
