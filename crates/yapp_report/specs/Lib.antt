pub mod Saving
pub mod Unread
pub mod EditedView
pub mod Failing
pub mod Explained
