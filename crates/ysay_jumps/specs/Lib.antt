pub mod Jumps
pub mod Beginning
