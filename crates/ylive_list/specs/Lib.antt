pub mod Found
pub mod Listed
pub mod Seen
pub mod Telling
pub mod Walked
