pub mod View
pub mod Kept
pub mod Asked
pub mod Answered
pub mod Came
