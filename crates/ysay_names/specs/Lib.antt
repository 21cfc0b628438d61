pub mod Rows
pub mod Prefixes
pub mod Names
pub mod KindView
pub mod Keys
