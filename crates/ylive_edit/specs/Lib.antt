pub mod Instances
pub mod Locating
pub mod Places
pub mod Reads
