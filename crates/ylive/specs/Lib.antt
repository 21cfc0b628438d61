pub mod Kept
pub mod View
pub mod Answers
pub use Rattle.ylive_list.specs.Seen
