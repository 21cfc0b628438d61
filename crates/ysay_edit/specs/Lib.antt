pub mod Choice
pub mod Step
pub mod Predicate
pub mod Spelling
pub mod Now
pub mod NowView
pub mod Part
pub mod Samples
