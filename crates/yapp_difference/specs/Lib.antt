pub mod Turning
pub mod Carried
pub mod Keys
pub mod KeyView
pub mod Counting
