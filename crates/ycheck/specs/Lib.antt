pub mod Cases
pub mod Found
pub mod Repeated
pub mod Targets
pub mod View
pub mod Walk
