pub mod Totals
pub mod Keeping
pub mod Defaults
pub mod Cutting
