pub mod Children
pub mod Places
pub mod Rows
pub mod Within
