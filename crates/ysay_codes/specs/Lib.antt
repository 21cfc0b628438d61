pub mod Codes
pub mod View
