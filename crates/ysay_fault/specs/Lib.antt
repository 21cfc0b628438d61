pub mod Cases
pub mod Fellows
pub mod FoundFellows
pub mod Others
pub mod Sentences
pub mod Writing
