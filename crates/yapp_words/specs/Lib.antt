pub mod Application
pub mod Command
pub mod Running
