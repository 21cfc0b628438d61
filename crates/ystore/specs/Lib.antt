pub mod Entries
pub mod Ending
pub mod Held
pub mod Index
pub mod Lending
pub mod Store
pub mod Viewed
pub mod Views
