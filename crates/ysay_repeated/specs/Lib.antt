pub mod Repeated
pub mod Found
pub mod Said
pub mod Samples
