-- What a run of the program prints.
pub mod RefusalData
pub mod Part
pub mod Hint
pub mod Script
pub mod Output
pub mod Unjudged
pub mod Lines
pub mod Format
