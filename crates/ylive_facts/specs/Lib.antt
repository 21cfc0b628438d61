pub mod Given
pub mod InPlay
pub mod Judging
pub mod Keys
pub mod Reads
pub mod Rows
pub mod Telling
pub mod Worked
