pub mod Index
pub mod Keys
pub mod Names
pub mod Sorted
