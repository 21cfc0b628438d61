pub mod Taking
pub mod Told
pub mod View
pub mod Walk
pub mod Rows
pub mod Order
pub mod Written
