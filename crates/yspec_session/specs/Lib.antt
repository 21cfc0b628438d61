-- Sessions over a live document.
pub mod Carrying
pub mod Session
pub mod Requests
pub mod Remembering
pub mod Samples
