pub mod Keeping
pub mod GivenView
pub mod Stating
pub mod Holding
