-- What an edit of a live document may read.
pub mod Parts
pub mod Sizes
pub mod Referring
pub mod Shared
pub mod Reach
pub mod ReachSamples
