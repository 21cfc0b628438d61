pub mod Remarks
pub mod Lines
pub mod View
