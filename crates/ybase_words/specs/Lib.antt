pub mod BuiltInView
pub mod KeywordView
pub mod Lengths
pub mod WordView
